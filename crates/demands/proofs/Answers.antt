-- Demand 1 over the definitions, proved: what every call answers and leaves.
use Prim.Native.Nat.{ℕ, zero, suc, ◌+◌, ◌/◌, ◌≤◌, ◌<◌}
use mathlib.Core.Bool.{Bool, true, false, cond, ◌&&◌}
use mathlib.Core.Path.{◌≡◌, refl, ap, ◌∙◌}
use mathlib.Core.Logic.{◌⊎◌, inl, inr, ⊎_elim}
use mathlib.Core.List.{List, [], ◌∷◌}
use native.Mathlib.Omega.{arith}
use lib.ListN.{length}
use lib.Dec.{ltb, leb, eqb}
use borrow.Author.Tests.{eqb-true, ne_eqb, le-leb, lt-leb, leb-true}
use Rattle.counting.proofs.Sums.{count_below}
use Rattle.paper.specs.declared.Answer.{Answer}
use Rattle.paper.specs.Upload.{byte_at, actions_of}
use Rattle.paper.specs.Table.{Table, table_of}
use Rattle.paper.specs.State.{State, fresh}
use Rattle.paper.specs.Image.{state_of}
use Rattle.paper.specs.Report.{moving, roots, waiting_count, outcome_of, root_of}
use Rattle.paper.specs.Runner.{Ran, run_from, runner, longest}
use Rattle.paper.specs.Actions.{reading, state_after, listed}
use Rattle.paper.specs.Refusals.{Refusal, accepted, Tried, refusal}
use Rattle.paper.specs.Calls.{refused_with, reported, has_state, answered, Replayed, replayed, replay_behind, fresh_answer, run_answer, report_answer, list_answer, list_of_image, step_refusal, step_answer, replay_answer}
use Rattle.paper.specs.Batch.{part_of, entry_answer}
use Rattle.paper.specs.Lines.{text_of, lines_answer}
use Rattle.std.proofs.lemmas.Bool.{or_cases, or_right, and_from}
use Rattle.counting.proofs.Booleans.{and_left, and_right, clash}
use Rattle.cabling.specs.Accepted.{Accepted}
use Rattle.batch.proofs.Independent.{independent}
use Rattle.demands.specs.ExactlyWhen
use Rattle.demands.specs.ExactlyWhen.{TableRefused, TablePasses, Tries, Ready, BadImage, ActionRefused, ActionTaken, Ground, of_header, of_span, of_table, of_image, of_action, of_room, ReplayRefused, AllTaken, fresh_tries, report_tries, list_tries, step_tries, replay_tries, entry_tries}
use Rattle.demands.specs.Answers.{Call, fresh_call, run_call, report_call, list_call, step_call, replay_call, entry_call, lines_call, answer_of, most_steps, Ranges, NotOfAction, Blank, Counts, StepCounts, Answers}
use Rattle.demands.proofs.Told.{sound_marks}
use Rattle.demands.proofs.Least.{least_lies}
use Rattle.listing.proofs.ListLength.{listed_most}
use Rattle.demands.proofs.TextLength.{text_most}
use Rattle.demands.proofs.Left.{call_leaves}
use Rattle.demands.proofs.OneAction.{action_given, action_passes, action_leads, action_number}
use Rattle.demands.proofs.Replaying.{replay_refused, replay_all, replay_either}
use Rattle.demands.proofs.Grounds.{Trying, table_number, ground, ground_given}
use Rattle.demands.proofs.ExactlyWhen.{known, fresh_trying, report_trying, list_trying, step_trying, replay_trying, entry_trying}

-- the place of a refusal of the table is a link's or 0
table_place : {upload : List ℕ} {number place : ℕ} → TableRefused upload number place → place ≤ 1023
table_place (ExactlyWhen.wrong_length h) = omega arith
table_place (ExactlyWhen.out_of_range l h) = omega arith
table_place (ExactlyWhen.names_no_node r h) = let most = r.header.range.links_fit in let there = r.there in omega arith
table_place (ExactlyWhen.joins_itself r n h) = let most = r.header.range.links_fit in let there = r.there in omega arith
table_place (ExactlyWhen.repeats r n s h) = let most = r.header.range.links_fit in let there = r.there in omega arith
table_place (ExactlyWhen.not_one_piece l p) = omega arith

-- what a ground says of its number and place: within range, and of 0 and 9 to 11 that the table passes
record Bounds (upload : List ℕ) (number place : ℕ) : Type 0 where
  numbers : number ≤ 13
  places : place ≤ 1023
  passes : (number ≡ 0) ⊎ ((9 ≤ number) × (number ≤ 11)) → TablePasses upload

-- a number that is neither 0 nor 9 to 11
no_state : {A : Type 0} {number : ℕ} → 1 ≤ number → (number ≤ 8) ⊎ (12 ≤ number) → (number ≡ 0) ⊎ ((9 ≤ number) × (number ≤ 11)) → A
no_state low apart (inl e) = absurd (omega arith)
no_state low (inl h) (inr w) = let under = w.0 in absurd (omega arith)
no_state low (inr h) (inr w) = let over = w.1 in absurd (omega arith)

bounds : (c : Tries) {tried : Tried} → Trying c tried → {number place : ℕ} → Ground c number place → Bounds c.upload number place
bounds c h (of_header p) = record { numbers = omega arith; places = omega arith; passes = no_state (omega arith) (inl (omega arith)) }
bounds c h (of_span n p) = record { numbers = omega arith; places = omega arith; passes = no_state (omega arith) (inl (omega arith)) }
bounds c h (of_table i p) =
    let low = (table_number p).0 in
    let high = (table_number p).1 in
    record { numbers = omega arith; places = table_place p; passes = no_state (omega arith) (inl high) }
bounds c h (of_image i t p) = record { numbers = omega arith; places = omega arith; passes = λ e. t }
bounds c h (of_action r p) =
    let acts = h.action r in
    let high = (acts.range p).1 in
    record { numbers = omega arith; places = acts.within p; passes = λ e. r.table }
bounds c h (of_room r t p) = record { numbers = omega arith; places = omega arith; passes = λ e. r.table }
bounds c h (ExactlyWhen.accepted r t p) = record { numbers = omega arith; places = omega arith; passes = λ e. r.table }

outcome_most : (t : Table) (s : State) → outcome_of t s ≤ 4
outcome_most t s = go (moving t s) (eqb (roots t s) 1) (eqb (roots t s) 0 && (ltb 0 (waiting_count t s) && leb t.nodes t.links))
  where
    go : (a b c : Bool) → cond a 1 (cond b 2 (cond c 3 4)) ≤ 4
    go true b c = omega arith
    go false true c = omega arith
    go false false true = omega arith
    go false false false = omega arith

root_lies : (t : Table) (s : State) → t.nodes ≤ 63 → (root_of t s < 63) ⊎ (root_of t s ≡ 255)
root_lies t s h = ⊎_elim (λ l. inl (omega arith)) inr (least_lies t.nodes s.root 255)

-- a refusal has a state exactly as its number is 0 or 9 to 11
with_state : (r : Refusal) → has_state r ≡ true → (r.number ≡ 0) ⊎ ((9 ≤ r.number) × (r.number ≤ 11))
with_state r e =
    ⊎_elim (λ f. inl (eqb-true _ _ f)) (λ f. inr (leb-true 9 r.number (and_left (leb 9 r.number) _ f), leb-true r.number 11 (and_right (leb 9 r.number) _ f)))
    (or_cases (eqb r.number 0) _ e)

-- a refusal that isn't of an action is answered without a state
stateless : (r : Refusal) → NotOfAction r.number → has_state r ≡ false
stateless r w = go w.1
  where
    some : (r.number ≡ 0) → ⊥
    some e = let low = w.0 in omega arith

    go : (r.number ≤ 8) ⊎ (12 ≤ r.number) → has_state r ≡ false
    go (inl h) = rw (ne_eqb r.number 0 some, lt-leb 9 r.number (omega arith))
    go (inr h) = rw (ne_eqb r.number 0 some, le-leb 9 r.number (omega arith), lt-leb r.number 11 (omega arith))

-- what is said of an answer by itself
pub record Judged (answer : Answer) (most : ℕ) : Type 0 where
  pub ranges : Ranges answer most
  pub blank : NotOfAction answer.refusal → Blank answer

judged : (c : Tries) {tried : Tried} → Trying c tried → (steps most : ℕ) (s : State) → (TablePasses c.upload → steps ≤ most) → Judged (answered (refusal c.upload tried) steps (table_of c.upload) s) most
judged c {tried} h steps most s fits = go (has_state r) refl
  where
    r : Refusal
    r = refusal c.upload tried

    b : Bounds c.upload (refusal c.upload tried).number (refusal c.upload tried).place
    b = bounds c h (ground c h (refusal c.upload tried).number (refusal c.upload tried).place refl)

    t : Table
    t = table_of c.upload

    go : (a : Bool) → has_state r ≡ a → Judged (cond a (reported r steps t s) (refused_with r)) most
    go true e =
        let p = b.passes (with_state r e) in
        let small = (known c.upload p).nodes_fit in
        let few = count_below t.nodes s.waiting in
        record {
          ranges =
              record {
                refusal_range = b.numbers;
                place_range = b.places;
                steps_range = fits p;
                outcome_range = outcome_most t s;
                root_range = root_lies t s small;
                waiting_range = omega arith;
              };
          blank = λ w. clash e (stateless r w);
        }
    go false e =
        record {
          ranges =
              record {
                refusal_range = b.numbers;
                place_range = b.places;
                steps_range = omega arith;
                outcome_range = omega arith;
                root_range = inr refl;
                waiting_range = omega arith;
              };
          blank = λ w. record { no_steps = refl; no_outcome = refl; no_root = refl; no_waiting = refl };
        }

-- the runner takes no more steps than its bound
run_most : (t : Table) (left : ℕ) (s : State) (taken : ℕ) → (run_from t left s taken).steps ≤ taken + left
unfolding run_from
run_most t zero s taken = omega arith
run_most t (suc left) s taken = go (listed t s) (λ next. run_most t left next (suc taken))
  where
    go : (l : List ℕ) → ((next : State) → (run_from t left next (suc taken)).steps ≤ suc taken + left) → (elim l as (λ x. Ran) [
      | [] ↦ record { state = s; steps = taken }
      | kind ∷ rest ↦ run_from t left (state_after t s (reading t kind (byte_at rest 0) (byte_at rest 1))) (suc taken)
    ]).steps ≤ taken + suc left
    go [] on = omega arith
    go (kind ∷ rest) on = let most = on (state_after t s (reading t kind (byte_at rest 0) (byte_at rest 1))) in omega arith

-- a replay takes no more steps than there are actions
replay_most : (upload : List ℕ) → TablePasses upload → (replayed upload).steps ≤ 1024
replay_most upload p = go (replay_either upload k)
  where
    k : Accepted upload
    k = known upload p

    go : AllTaken upload ⊎ ((number : ℕ) × (place : ℕ) × ReplayRefused upload number place) → (replayed upload).steps ≤ 1024
    go (inl w) = let e = ap (λ (r : Replayed). r.steps) (replay_all upload k w) in let most = k.actions_fit in omega arith
    go (inr w) = let e = ap (λ (r : Replayed). r.steps) (replay_refused upload k w.2) in let most = k.actions_fit in let there = w.2.there in omega arith

runner_most : (upload : List ℕ) → TablePasses upload → (runner (table_of upload)).steps ≤ 1024
unfolding runner
runner_most upload p =
    let t = table_of upload in
    let k = known upload p in
    let most = run_most t (longest t) (fresh t) 0 in
    let nodes = k.nodes_fit in
    let links = k.links_fit in
    omega arith

list_most : (upload image : List ℕ) → TablePasses upload → length (list_of_image upload image) / 3 ≤ 1024
list_most upload image p =
    let t = table_of upload in
    let k = known upload p in
    let nodes = k.nodes_fit in
    let links = k.links_fit in
    let most = listed_most t (state_of t image) nodes in
    omega arith

lines_judged : (batch buffer : List ℕ) → Judged (lines_answer batch buffer) 2688
unfolding lines_answer
lines_judged batch buffer = go (ltb (length buffer) (length (text_of batch))) refl
  where
    nothing : NotOfAction 0 → ⊥
    nothing w = let low = w.0 in omega arith

    go : (b : Bool) → ltb (length buffer) (length (text_of batch)) ≡ b → Judged (lines_answer batch buffer) 2688
    go true e =
        rw e (
        record {
          ranges =
              record {
                refusal_range = omega arith;
                place_range = omega arith;
                steps_range = omega arith;
                outcome_range = omega arith;
                root_range = inr refl;
                waiting_range = omega arith;
              };
          blank = λ w. record { no_steps = refl; no_outcome = refl; no_root = refl; no_waiting = refl };
        }
        )
    go false e =
        rw e (
        record {
          ranges =
              record {
                refusal_range = omega arith;
                place_range = omega arith;
                steps_range = text_most batch;
                outcome_range = omega arith;
                root_range = inr refl;
                waiting_range = omega arith;
              };
          blank = λ w. absurd (nothing w);
        }
        )

call_judged : (c : Call) → Judged (answer_of c) (most_steps c)
unfolding fresh_answer run_answer report_answer list_answer step_answer replay_behind entry_answer
call_judged (fresh_call upload image) = judged (fresh_tries upload image) (fresh_trying upload image) _ 1024 _ (λ p. omega arith)
call_judged (run_call upload image) = judged (fresh_tries upload image) (fresh_trying upload image) _ 1024 _ (runner_most upload)
call_judged (report_call upload image) = judged (report_tries upload image) (report_trying upload image) _ 1024 _ (λ p. omega arith)
call_judged (list_call upload image buffer) = judged (list_tries upload image buffer) (list_trying upload image buffer) _ 1024 _ (list_most upload image)
call_judged (step_call upload image kind x y) =
    judged (step_tries upload image kind x y) (step_trying upload image kind x y) _ 1024 _ (λ p. one (eqb (step_refusal upload image kind x y).number 0))
  where
    one : (b : Bool) → cond b 1 0 ≤ 1024
    one true = omega arith
    one false = omega arith
call_judged (replay_call upload) = judged (replay_tries upload) (replay_trying upload) _ 1024 _ (replay_most upload)
call_judged (entry_call batch i) = judged (entry_tries batch i) (entry_trying batch i) _ 1024 _ (replay_most (part_of batch i))
call_judged (lines_call batch buffer) = lines_judged batch buffer

-- a refusal of an action is answered with a report
answered_action : (number place steps : ℕ) (t : Table) (s : State) → (9 ≤ number) × (number ≤ 11) → answered (record { number = number; place = place }) steps t s ≡ reported (record { number = number; place = place }) steps t s
answered_action number place steps t s w =
    ap (λ b. cond b (reported (record { number = number; place = place }) steps t s) (refused_with (record { number = number; place = place })))
    (or_right (eqb number 0) _ (and_from _ _ (le-leb 9 number w.0) (le-leb number 11 w.1)))

-- a replay is ready where its table passes
replay_ready : (upload : List ℕ) → TablePasses upload → Ready (replay_tries upload)
replay_ready upload p = record { inside = record { header = λ h. h; span = λ h. h }; table = p; image = λ h. h }

counts : (upload : List ℕ) → Counts upload
unfolding replay_behind
counts upload = record { stopped = stopped; ended = ended }
  where
    stopped : TablePasses upload → {number i : ℕ} (h : ReplayRefused upload number i) → replay_answer upload ≡ reported (record { number = number; place = i }) i (table_of upload) h.before
    stopped p {number} {i} h =
        let e = replay_refused upload (known upload p) h in
        let g = ground_given (replay_tries upload) (replay_trying upload) (of_action (replay_ready upload p) h) in
        (λ j. answered (g j) (e j).steps (table_of upload) (e j).state) ∙ answered_action number i i (table_of upload) h.before (action_number h.refused)

    ended : TablePasses upload → (h : AllTaken upload) → replay_answer upload ≡ reported accepted (actions_of upload) (table_of upload) h.end
    ended p h =
        let e = replay_all upload (known upload p) h in
        let g = ground_given (replay_tries upload) (replay_trying upload) (ExactlyWhen.accepted (replay_ready upload p) h (λ r. r)) in
        λ j. answered (g j) (e j).steps (table_of upload) (e j).state

step_counts_is : (upload image : List ℕ) (kind x y : ℕ) → StepCounts upload image kind x y
unfolding step_answer
step_counts_is upload image kind x y = record { refused = refused; taken = taken }
  where
    t : Table
    t = table_of upload

    s : State
    s = state_of t image

    ready : TablePasses upload → (BadImage (table_of upload) image → ⊥) → Ready (step_tries upload image kind x y)
    ready p good = record { inside = record { header = λ h. h; span = λ h. h }; table = p; image = good }

    refused : TablePasses upload → (BadImage (table_of upload) image → ⊥) → {number : ℕ} → ActionRefused (table_of upload) (state_of (table_of upload) image) kind x y number → step_answer upload image kind x y ≡ reported (record { number = number; place = 0 }) 0 (table_of upload) (state_of (table_of upload) image)
    refused p good {number} h =
        let k = known upload p in
        let range = action_number h in
        let low = range.0 in
        let g = ground_given (step_tries upload image kind x y) (step_trying upload image kind x y) (of_action (ready p good) (record { only = refl; refused = h })) in
        let e = action_given t k.ends k.no_self k.no_repeat kind x y s (sound_marks t image good) h in
        let n = ne_eqb number 0 (omega arith) in
        (λ j. answered (g j) (cond (eqb (g j).number 0) 1 0) t (cond (eqb (e j) 0) (state_after t s (reading t kind x y)) s))
        ∙ ap (λ b. answered (record { number = number; place = 0 }) (cond b 1 0) t (cond b (state_after t s (reading t kind x y)) s)) n
        ∙ answered_action number 0 0 t s range

    taken : TablePasses upload → (BadImage (table_of upload) image → ⊥) → {next : State} → ActionTaken (table_of upload) (state_of (table_of upload) image) kind x y next → step_answer upload image kind x y ≡ reported accepted 1 (table_of upload) next
    taken p good {next} h =
        let k = known upload p in
        let g = ground_given (step_tries upload image kind x y) (step_trying upload image kind x y) (ExactlyWhen.accepted (ready p good) (record { next = next; taken = h }) (λ r. r)) in
        let e = action_passes t k.ends k.no_self k.no_repeat kind x y s (sound_marks t image good) h in
        let f = action_leads t k.ends k.no_self k.no_repeat kind x y s h in
        λ j. answered (g j) (cond (eqb (g j).number 0) 1 0) t (cond (eqb (e j) 0) (f j) s)

pub answers : Answers
answers =
    record {
      independent = independent;
      leaves = call_leaves;
      ranges = λ c. (call_judged c).ranges;
      blank = λ c. (call_judged c).blank;
      counts = counts;
      step_counts = step_counts_is;
    }

-- A single step follows the table, and a replay is its single steps, one after another.
use Prim.Native.Nat.{ℕ, zero, suc, ◌+◌, ◌≤◌, ◌<◌}
use mathlib.Core.Bool.{Bool, true, cond, ◌&&◌}
use mathlib.Core.Path.{◌≡◌, refl, sym, ap, subst, subst⁻¹, ◌∙◌}
use mathlib.Core.List.{List}
use native.Mathlib.Omega.{arith}
use native.Mathlib.Decide.{ℕ_discrete}
use lib.ListN.{length}
use borrow.Author.Tests.{eq-eqb, ne_eqb}
use Rattle.paper.specs.declared.Answer.{Answer}
use Rattle.paper.specs.Upload.{byte_at, actions_of, action_at}
use Rattle.paper.specs.Table.{table_of}
use Rattle.paper.specs.State.{State, fresh}
use Rattle.paper.specs.Steps.{Step, possible, effect}
use Rattle.paper.specs.Image.{state_of, image_of, image_length, fits, sound}
use Rattle.paper.specs.Actions.{Reading, names, reading, node_step, link_step, direction_from, refused_by, state_after}
use Rattle.paper.specs.Refusals.{table_refusal}
use Rattle.paper.specs.Calls.{fresh_image, step_state, step_answer, step_image, action_of, Replayed, replay_from, replayed, replay_answer}
use Rattle.std.proofs.lemmas.Bool.{and_from}
use Rattle.paper.proofs.Images.{sound_marks}
use Rattle.paper.proofs.Kept.{possible_taken}
use Rattle.paper.proofs.Changes.{possible_in_table}
use Rattle.paper.proofs.Readings.{Read, at_node, for_link, not_read, read, read_once, read_step}
use Rattle.table.proofs.Laws.{accepted_laws}
use Rattle.image.specs.Taken.{Holds}
use Rattle.image.proofs.Kept.{step_holds, fresh_holds}
use Rattle.replay.specs.Promises.{Effect, Allowed, FollowsTable, single_refusal, singles, IsSingles}
use Rattle.replay.proofs.Answers.{lent_here, lent_fits, sound_here, fresh_done_left}
use Rattle.replay.proofs.Acted.{next_taken, next_refused}
use Rattle.replay.proofs.Stepped.{answer_of_step, step_left}
use Rattle.replay.proofs.Folds.{replay_stops, replay_goes_on}
use Rattle.replay.proofs.Replaying.{same_image}
use Rattle.replay.proofs.Replayed.{replay_done}
use Rattle.replay.proofs.Promises.{possible_plainly, effect_plainly}

module _ (upload image : List ℕ) (h : (table_refusal upload).number ≡ 0) (g : (fits (table_of upload) image && sound (table_of upload) image) ≡ true) (kind x y : ℕ) where
  -- a step that three bytes name and that is possible
  record Takes (z : Step) : Type 0 where
    named : reading (table_of upload) kind x y ≡ names z
    may : possible (table_of upload) (state_of (table_of upload) image) z ≡ true

  takes : refused_by (table_of upload) (state_of (table_of upload) image) (reading (table_of upload) kind x y) ≡ 0 → (z : Step) × Takes z
  takes = go (read (table_of upload) kind x y) refl
    where
      go : {r : Reading} → Read (table_of upload) kind x y r → reading (table_of upload) kind x y ≡ r → refused_by (table_of upload) (state_of (table_of upload) image) r ≡ 0 → (z : Step) × Takes z
      go (at_node node l f) e q =
          let z = node_step kind x in
          (z, record { named = e; may = possible_taken (table_of upload) (state_of (table_of upload) image) z q })
      go (for_link low high l k i inside f) e q =
          let z = link_step kind i (direction_from (table_of upload) i x) in
          (z, record { named = e; may = possible_taken (table_of upload) (state_of (table_of upload) image) z q })
      go (not_read number) e q = absurd (omega arith)

  taken : (z : Step) → Takes z → refused_by (table_of upload) (state_of (table_of upload) image) (reading (table_of upload) kind x y) ≡ 0
  taken z w = ap (refused_by (table_of upload) (state_of (table_of upload) image)) w.named ∙ ap (λ (b : Bool). cond b 0 11) w.may

  allowed : (z : Step) → Takes z → Allowed (table_of upload) (state_of (table_of upload) image) kind x y z
  allowed z w =
      let t = table_of upload in
      let bytes = read_once t (accepted_laws upload h).no_self z kind x y w.named in
      record {
        kind_is = bytes.0;
        first_is = bytes.1;
        second_is = bytes.2;
        may = (possible_plainly t (state_of t image) (sound_marks t image (sound_here upload image g)) z).0 w.may;
      }

  takes_allowed : (z : Step) → Allowed (table_of upload) (state_of (table_of upload) image) kind x y z → Takes z
  takes_allowed z w =
      let t = table_of upload in
      let laws = accepted_laws upload h in
      let may = (possible_plainly t (state_of t image) (sound_marks t image (sound_here upload image g)) z).1 w.may in
      let own = read_step t laws.ends laws.no_self laws.no_repeat z (possible_in_table t (state_of t image) z may) in
      record { named = (λ j. reading t (w.kind_is j) (w.first_is j) (w.second_is j)) ∙ own; may = may }

  -- the image after it shows the state after it
  single_holds : Holds upload (step_image upload image kind x y) (step_state upload image kind x y)
  single_holds = go (ℕ_discrete (refused_by (table_of upload) (state_of (table_of upload) image) (reading (table_of upload) kind x y)) 0)
    where
      go : Dec (refused_by (table_of upload) (state_of (table_of upload) image) (reading (table_of upload) kind x y) ≡ 0) → Holds upload (step_image upload image kind x y) (step_state upload image kind x y)
      go (yes e) =
          let t = table_of upload in
          let s = state_of t image in
          let (z, w) = takes e in
          let after : state_after t s (reading t kind x y) ≡ effect t s z = ap (state_after t s) w.named in
          let leaves : step_image upload image kind x y ≡ image_of t (effect t s z) = step_left upload image kind x y h g ∙ ap (λ (b : Bool). cond b (image_of t (state_after t s (reading t kind x y))) image) (eq-eqb _ 0 e) ∙ ap (image_of t) after in
          subst (Holds upload (step_image upload image kind x y)) (sym (next_taken upload s kind x y e ∙ after)) (step_holds upload image (step_image upload image kind x y) z (lent_here upload image h g) (sound_here upload image g) w.may leaves)
      go (no e) =
          let t = table_of upload in
          let s = state_of t image in
          let stays : step_image upload image kind x y ≡ image = step_left upload image kind x y h g ∙ ap (λ (b : Bool). cond b (image_of t (state_after t s (reading t kind x y))) image) (ne_eqb _ 0 e) in
          let same : Holds upload image (step_state upload image kind x y) = record { lent = lent_here upload image h g; is_sound = sound_here upload image g; shows = sym (next_refused upload s kind x y e) } in
          subst⁻¹ (λ (l : List ℕ). Holds upload l (step_state upload image kind x y)) stays same

  single_number : (step_answer upload image kind x y).refusal ≡ refused_by (table_of upload) (state_of (table_of upload) image) (reading (table_of upload) kind x y)
  single_number = ap (λ (a : Answer). a.refusal) (answer_of_step upload image kind x y h g)

  pub follows_table : FollowsTable upload image kind x y
  follows_table =
      let t = table_of upload in
      let s = state_of t image in
      let k = refused_by t s (reading t kind x y) in
      let after = single_holds in
      let counts = ap (λ (a : Answer). a.steps) (answer_of_step upload image kind x y h g) in
      record {
        exactly = (
          λ e. let (z, w) = takes (sym single_number ∙ e) in (z, allowed z w),
          λ w. single_number ∙ taken w.0 (takes_allowed w.0 w.1),
        );
        effect = λ z w.
            let e = takes_allowed z w in
            let state = after.shows ∙ next_taken upload s kind x y (taken z e) ∙ ap (state_after t s) e.named in
            subst⁻¹ (Effect t z s) state (effect_plainly t s z);
        stays = λ e. step_left upload image kind x y h g ∙ ap (λ (b : Bool). cond b (image_of t (state_after t s (reading t kind x y))) image) (ne_eqb k 0 (λ q. e (single_number ∙ q)));
        counted = λ e. counts ∙ ap (λ (b : Bool). cond b 1 0) (eq-eqb k 0 (sym single_number ∙ e));
        uncounted = λ e. counts ∙ ap (λ (b : Bool). cond b 1 0) (ne_eqb k 0 (λ q. e (single_number ∙ q)));
        keeps_length = eq-eqb (length (step_image upload image kind x y)) (image_length t) after.lent.fits;
        keeps_sound = after.is_sound;
      }

-- an image that single steps can be taken on: lent and sound
good_image : (upload image : List ℕ) {s : State} → Holds upload image s → (fits (table_of upload) image && sound (table_of upload) image) ≡ true
good_image upload image w =
    and_from _ _ (eq-eqb (length image) (image_length (table_of upload)) w.lent.fits) w.is_sound

-- what the actions from i on come to, as single steps
record Part (upload begin : List ℕ) (i k : ℕ) (w : Replayed) : Type 0 where
  low : i ≤ w.steps
  high : w.steps ≤ i + k
  held : Holds upload (singles upload begin w.steps) w.state
  taken : (j : ℕ) → i ≤ j → j < w.steps → single_refusal upload (singles upload begin j) j ≡ 0
  stopped : w.steps < i + k → (w.refusal.number ≡ single_refusal upload (singles upload begin w.steps) w.steps) × (w.refusal.number ≡ 0 → ⊥)
  all : w.steps ≡ i + k → w.refusal.number ≡ 0

module _ (upload begin : List ℕ) (h : (table_refusal upload).number ≡ 0) where
  -- action i on the image that the ones before it leave
  number_at : (i : ℕ) {s : State} → Holds upload (singles upload begin i) s → single_refusal upload (singles upload begin i) i ≡ refused_by (table_of upload) (state_of (table_of upload) (singles upload begin i)) (action_of upload i)
  number_at i w =
      single_number upload (singles upload begin i) h (good_image upload (singles upload begin i) w) (byte_at upload (action_at upload i)) (byte_at upload (action_at upload i + 1)) (byte_at upload (action_at upload i + 2))

  next_holds : (i : ℕ) → Holds upload (singles upload begin i) (state_of (table_of upload) (singles upload begin i)) → refused_by (table_of upload) (state_of (table_of upload) (singles upload begin i)) (action_of upload i) ≡ 0 → Holds upload (singles upload begin (suc i)) (state_after (table_of upload) (state_of (table_of upload) (singles upload begin i)) (action_of upload i))
  unfolding singles
  next_holds i w e =
      subst (Holds upload (singles upload begin (suc i))) (next_taken upload (state_of (table_of upload) (singles upload begin i)) (byte_at upload (action_at upload i)) (byte_at upload (action_at upload i + 1)) (byte_at upload (action_at upload i + 2)) e)
      (single_holds upload (singles upload begin i) h (good_image upload (singles upload begin i) w) (byte_at upload (action_at upload i)) (byte_at upload (action_at upload i + 1)) (byte_at upload (action_at upload i + 2)))

  part : (k i : ℕ) (s : State) → Holds upload (singles upload begin i) s → Part upload begin i k (replay_from upload s i k)
  unfolding replay_from
  part zero i s w =
      record {
        low = omega arith;
        high = omega arith;
        held = w;
        taken = λ j l g. absurd (omega arith);
        stopped = λ l. absurd (omega arith);
        all = λ e. refl;
      }
  part (suc k) i s w =
      subst (λ (z : State). Part upload begin i (suc k) (replay_from upload z i (suc k))) w.shows
      (go (ℕ_discrete (refused_by (table_of upload) here (action_of upload i)) 0) (part k (suc i)))
    where
      here : State
      here = state_of (table_of upload) (singles upload begin i)

      now : Holds upload (singles upload begin i) here
      now = record { lent = w.lent; is_sound = w.is_sound; shows = refl }

      go : Dec (refused_by (table_of upload) here (action_of upload i) ≡ 0) → ((z : State) → Holds upload (singles upload begin (suc i)) z → Part upload begin (suc i) k (replay_from upload z (suc i) k)) → Part upload begin i (suc k) (replay_from upload here i (suc k))
      go (yes e) later =
          let next = state_after (table_of upload) here (action_of upload i) in
          let p = later next (next_holds i now e) in
          let low = p.low in
          let high = p.high in
          let taken : (j : ℕ) → i ≤ j → j < (replay_from upload next (suc i) k).steps → single_refusal upload (singles upload begin j) j ≡ 0 = λ j l g. first_or_later j l g (ℕ_discrete i j) p.taken in
          subst⁻¹ (Part upload begin i (suc k)) (replay_goes_on upload here i k e)
          (record { low = omega arith; high = omega arith; held = p.held; taken = taken; stopped = λ l. p.stopped (omega arith); all = λ q. p.all (omega arith) })
        where
          first_or_later : (j : ℕ) → i ≤ j → {n : ℕ} → j < n → Dec (i ≡ j) → ((j : ℕ) → suc i ≤ j → j < n → single_refusal upload (singles upload begin j) j ≡ 0) → single_refusal upload (singles upload begin j) j ≡ 0
          first_or_later j l g (yes q) rest = subst (λ (n : ℕ). single_refusal upload (singles upload begin n) n ≡ 0) q (number_at i now ∙ e)
          first_or_later j l g (no q) rest = rest j (omega arith) g
      go (no e) later =
          let said = number_at i now in
          subst⁻¹ (Part upload begin i (suc k)) (replay_stops upload here i k e)
          (record {
            low = omega arith;
            high = omega arith;
            held = now;
            taken = λ j l g. absurd (omega arith);
            stopped = λ l. (sym said, e);
            all = λ q. absurd (omega arith);
          })

-- the replay of an accepted upload, from any image that is made fresh
pub replay_singles : (upload old : List ℕ) → (table_refusal upload).number ≡ 0 → fits (table_of upload) old ≡ true → IsSingles upload (fresh_image upload old)
unfolding replayed singles
replay_singles upload old h g =
    let t = table_of upload in
    let begin = fresh_image upload old in
    let start = fresh_holds upload old begin (lent_fits upload old h g) (fresh_done_left upload old h g) in
    let p = part upload begin h (actions_of upload) 0 (fresh t) start in
    let w = replay_from upload (fresh t) 0 (actions_of upload) in
    let answer : (replay_answer upload).refusal ≡ w.refusal.number = ap (λ (a : Answer). a.refusal) (replay_done upload h) in
    let most = p.high in
    record {
      taken = λ i l. p.taken i (omega arith) l;
      image = sym (same_image upload (singles upload begin w.steps) p.held.lent p.held.is_sound ∙ ap (image_of t) p.held.shows);
      most = omega arith;
      stopped = λ l. let (e, f) = p.stopped (omega arith) in (answer ∙ e, λ q. f (sym answer ∙ q));
      all = λ q. answer ∙ p.all (omega arith);
    }

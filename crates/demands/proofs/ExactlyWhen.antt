-- Each number of refusal is given exactly when document 01 says so, with the place that it says, for every call.
use Prim.Native.Nat.{ℕ}
use mathlib.Core.Bool.{Bool, true, false, not, cond, ◌&&◌}
use mathlib.Core.Path.{◌≡◌, refl, sym, ap, subst₂, ◌∙◌}
use mathlib.Core.Logic.{◌⊎◌, inl, inr}
use mathlib.Core.List.{List}
use native.Mathlib.Omega.{arith}
use lib.ListN.{length}
use lib.Dec.{ltb, eqb}
use Rattle.paper.specs.Table.{Table, table_of}
use Rattle.paper.specs.State.{State}
use Rattle.paper.specs.Image.{fits, sound, state_of}
use Rattle.paper.specs.Actions.{reading, refused_by}
use Rattle.paper.specs.Refusals.{Refusal, accepted, given, image_refusal, length_refusal, room_refusal}
use Rattle.paper.specs.Calls.{fresh_answer, report_answer, list_of_image, list_answer, step_answer, run_answer, Replayed, replayed, replay_behind, action_refusal, trying}
use Rattle.paper.specs.Batch.{header_wrong, span_outside, part_of, entry_answer}
use Rattle.paper.specs.Lines.{text_of, lines_answer}
use Rattle.cabling.specs.Accepted.{Accepted}
use Rattle.table.proofs.Laws.{accepted_laws}
use Rattle.table.proofs.Tells.{Tells, tells_lt, decided, holds, fails}
use Rattle.demands.specs.ExactlyWhen.{TablePasses, BadImage, Ready, ActionRefused, ActionTaken, tries, no_action, StepRefused, StepTaken, ReplayRefused, AllTaken, NoRoom, fresh_tries, report_tries, list_tries, step_tries, replay_tries, entry_tries, LinesGround, written, no_room, Exactly, Given, ExactlyWhen}
use Rattle.demands.proofs.Told.{tells_header, tells_span, tells_length, tells_image, sound_marks}
use Rattle.demands.proofs.OneAction.{action_given, action_passes, action_either, action_number}
use Rattle.demands.proofs.Replaying.{replay_refused, replay_all, replay_either}
use Rattle.demands.proofs.TableGround.{table_accepted}
use Rattle.demands.proofs.Grounds.{told, untried, Told, Acts, Trying, exactly}

-- what is known of a table that passes
pub known : (upload : List ℕ) → TablePasses upload → Accepted upload
known upload h = accepted_laws upload (ap (λ (r : Refusal). r.number) (table_accepted upload h))

-- no action is tried
no_acts : Acts accepted no_action (Unit {0})
no_acts = record { refused = λ h. absurd h; range = λ h. absurd h; within = λ h. absurd h; passed = λ h. refl; either = inl tt }

-- a call of a table, which tries no header and no span
of_one_table : {upload : List ℕ} {I : Type 0} {A : ℕ → ℕ → Type 0} {taken R : Type 0} {image action room : Refusal} → Told image 12 I → (Ready (tries upload I A taken R) → Acts action A taken) → Told room 13 R → Trying (tries upload I A taken R) (trying image action room)
of_one_table i a r =
    record {
      header = untried 1;
      span = untried 2;
      image = i;
      action = a;
      room = r;
    }

pub fresh_trying : (upload image : List ℕ) → Trying (fresh_tries upload image) (trying (length_refusal (table_of upload) image) accepted accepted)
fresh_trying upload image =
    of_one_table (told (not (fits (table_of upload) image)) 12 (tells_length (table_of upload) image)) (λ h. no_acts) (untried 13)

pub report_trying : (upload image : List ℕ) → Trying (report_tries upload image) (trying (image_refusal (table_of upload) image) accepted accepted)
report_trying upload image =
    let t = table_of upload in
    of_one_table (told (not (fits t image && sound t image)) 12 (tells_image t image)) (λ h. no_acts) (untried 13)

pub list_trying : (upload image buffer : List ℕ) → Trying (list_tries upload image buffer) (trying (image_refusal (table_of upload) image) accepted (room_refusal (length (list_of_image upload image)) buffer))
list_trying upload image buffer =
    let t = table_of upload in
    of_one_table (told (not (fits t image && sound t image)) 12 (tells_image t image)) (λ h. no_acts)
    (told (ltb (length buffer) (length (list_of_image upload image))) 13 (tells_lt (length buffer) (length (list_of_image upload image))))

step_acts : (upload image : List ℕ) (kind x y : ℕ) → TablePasses upload → (BadImage (table_of upload) image → ⊥) → let t = table_of upload in let s = state_of t image in Acts (action_refusal (refused_by t s (reading t kind x y)) 0) (StepRefused t s kind x y) (StepTaken t s kind x y)
step_acts upload image kind x y h good =
    let t = table_of upload in
    let s = state_of t image in
    let k = known upload h in
    let marks = sound_marks t image good in
    record {
      refused = λ w. ap (λ n. record { number = n; place = cond (eqb n 0) 0 0 }) (action_given t k.ends k.no_self k.no_repeat kind x y s marks w.refused) ∙ at_first _ _ w.only;
      range = λ w. action_number w.refused;
      within = λ w. let only = w.only in omega arith;
      passed = λ w. ap (λ n. action_refusal n 0) (action_passes t k.ends k.no_self k.no_repeat kind x y s marks w.taken);
      either = which t s (action_either t k.ends k.no_self k.no_repeat kind x y s marks);
    }
  where
    at_first : (number place : ℕ) → place ≡ 0 → action_refusal number 0 ≡ record { number = number; place = place }
    at_first number place e = λ i. record { number = number; place = (same (eqb number 0) ∙ sym e) i }
      where
        same : (b : Bool) → ◌≡◌ {A = ℕ} (cond b 0 0) 0
        same true = refl
        same false = refl

    which : (t : Table) (s : State) {next : State} → ActionTaken t s kind x y next ⊎ ((number : ℕ) × ActionRefused t s kind x y number) → StepTaken t s kind x y ⊎ ((number : ℕ) × (place : ℕ) × StepRefused t s kind x y number place)
    which t s (inl w) = inl (record { next = _; taken = w })
    which t s (inr w) = inr (w.0, 0, record { only = refl; refused = w.1 })

pub step_trying : (upload image : List ℕ) (kind x y : ℕ) → let t = table_of upload in Trying (step_tries upload image kind x y) (trying (image_refusal t image) (action_refusal (refused_by t (state_of t image) (reading t kind x y)) 0) accepted)
step_trying upload image kind x y =
    let t = table_of upload in
    of_one_table (told (not (fits t image && sound t image)) 12 (tells_image t image)) (λ r. step_acts upload image kind x y r.table r.image) (untried 13)

replay_acts : (upload : List ℕ) → TablePasses upload → Acts (replayed upload).refusal (ReplayRefused upload) (AllTaken upload)
replay_acts upload h =
    let k = known upload h in
    record {
      refused = λ w. ap (λ (r : Replayed). r.refusal) (replay_refused upload k w);
      range = λ w. action_number w.refused;
      within = λ w. let there = w.there in let most = k.actions_fit in omega arith;
      passed = λ w. ap (λ (r : Replayed). r.refusal) (replay_all upload k w);
      either = replay_either upload k;
    }

pub replay_trying : (upload : List ℕ) → Trying (replay_tries upload) (trying accepted (replayed upload).refusal accepted)
replay_trying upload = of_one_table (untried 12) (λ r. replay_acts upload r.table) (untried 13)

pub entry_trying : (batch : List ℕ) (i : ℕ) → Trying (entry_tries batch i) (record { header = given (header_wrong batch) 1 0; span = given (span_outside batch i) 2 0; image = accepted; action = (replayed (part_of batch i)).refusal; room = accepted })
entry_trying batch i =
    record {
      header = told (header_wrong batch) 1 (tells_header batch);
      span = told (span_outside batch i) 2 (tells_span batch i);
      image = untried 12;
      action = λ r. replay_acts (part_of batch i) r.table;
      room = untried 13;
    }

lines_exactly : (batch buffer : List ℕ) → Exactly (lines_answer batch buffer) (LinesGround batch buffer)
unfolding lines_answer
lines_exactly batch buffer number place = (λ g. there (decided room tells) number place g, back)
  where
    room : Bool
    room = ltb (length buffer) (length (text_of batch))

    tells : Tells room (NoRoom (text_of batch) buffer)
    tells = tells_lt (length buffer) (length (text_of batch))

    back : {number place : ℕ} → LinesGround batch buffer number place → Given (lines_answer batch buffer) number place
    back (written h) = rw (fails room tells h) (refl, refl)
    back (no_room h) = rw (holds room tells h) (refl, refl)

    there : Dec (NoRoom (text_of batch) buffer) → (number place : ℕ) → Given (lines_answer batch buffer) number place → LinesGround batch buffer number place
    there (yes h) number place g = let k = back (no_room h) in subst₂ (LinesGround batch buffer) (sym k.0 ∙ g.0) (sym k.1 ∙ g.1) (no_room h)
    there (no h) number place g = let k = back (written h) in subst₂ (LinesGround batch buffer) (sym k.0 ∙ g.0) (sym k.1 ∙ g.1) (written h)

pub exactly_when : ExactlyWhen
unfolding fresh_answer run_answer report_answer list_answer step_answer replay_behind entry_answer
exactly_when =
    record {
      fresh = λ upload image. exactly (fresh_tries upload image) (fresh_trying upload image) _ _ _;
      run = λ upload image. exactly (fresh_tries upload image) (fresh_trying upload image) _ _ _;
      report = λ upload image. exactly (report_tries upload image) (report_trying upload image) _ _ _;
      list = λ upload image buffer. exactly (list_tries upload image buffer) (list_trying upload image buffer) _ _ _;
      step = λ upload image kind x y. exactly (step_tries upload image kind x y) (step_trying upload image kind x y) _ _ _;
      replay = λ upload. exactly (replay_tries upload) (replay_trying upload) _ _ _;
      entry = λ batch i. exactly (entry_tries batch i) (entry_trying batch i) _ _ _;
      lines = lines_exactly;
    }

-- What is left of the lent bytes: a refused call keeps them, an accepted one writes its output over the first of them.
use Prim.Native.Nat.{ℕ, ◌≤◌}
use mathlib.Core.Bool.{cond}
use mathlib.Core.Path.{◌≡◌, refl, sym, ap, ◌∙◌}
use mathlib.Core.List.{List, [], ◌++◌, append-nil}
use native.Mathlib.Omega.{arith}
use native.Mathlib.Decide.{ℕ_discrete}
use lib.ListN.{length, take, drop, length-append, length-drop, drop_of_length-le}
use lib.Seq.{take-append_seam, drop-append_seam}
use borrow.Author.Tests.{eq-eqb, ne_eqb}
use Rattle.paper.specs.declared.Answer.{Answer}
use Rattle.paper.specs.Table.{Table, table_of}
use Rattle.paper.specs.State.{State, fresh}
use Rattle.paper.specs.Image.{image_length, image_of}
use Rattle.paper.specs.Refusals.{Refusal, Tried}
use Rattle.paper.specs.Runner.{runner}
use Rattle.paper.specs.Calls.{left, over, fresh_answer, fresh_image, fresh_refusal, report_answer, list_of_image, list_answer, list_buffer, list_refusal, step_answer, step_image, step_refusal, step_state, run_answer, run_image, replay_answer}
use Rattle.paper.specs.Batch.{entry_answer}
use Rattle.paper.specs.Lines.{text_of, lines_answer, lines_buffer, lines_refusal}
use Rattle.paper.proofs.Images.{length_image}
use Rattle.demands.specs.ExactlyWhen
use Rattle.demands.specs.ExactlyWhen.{WrongImageLength, not_the_length, NoRoom, LinesGround, written, no_room, Tries, Ready, Ground, of_header, of_span, of_table, of_image, of_action, of_room, fresh_tries, list_tries, step_tries, Exactly}
use Rattle.demands.specs.Answers.{Call, fresh_call, run_call, report_call, list_call, step_call, replay_call, entry_call, lines_call, answer_of, before, after, output, Leaves}
use Rattle.demands.proofs.Grounds.{Trying, table_number, answered_given}
use Rattle.demands.proofs.ExactlyWhen.{fresh_trying, list_trying, step_trying, exactly_when}

-- an accepted call was ready, and had room
pub record Had (c : Tries) : Type 0 where
  pub ready : Ready c
  pub taken : c.taken
  pub room : c.room → ⊥

pub had : (c : Tries) {tried : Tried} → Trying c tried → {number place : ℕ} → Ground c number place → number ≡ 0 → Had c
had c h (of_header p) e = absurd (omega arith)
had c h (of_span n p) e = absurd (omega arith)
had c h (of_table i p) e = let low = (table_number p).0 in absurd (omega arith)
had c h (of_image i t p) e = absurd (omega arith)
had c h (of_action r p) e = let low = ((h.action r).range p).0 in absurd (omega arith)
had c h (of_room r t p) e = absurd (omega arith)
had c h (ExactlyWhen.accepted r t p) e = record { ready = r; taken = t; room = p }

-- a buffer that is left by a refusal: as it was, or with an output over it
record Writes (answer : Answer) (new old left : List ℕ) : Type 0 where
  refused : (answer.refusal ≡ 0 → ⊥) → left ≡ old
  done : answer.refusal ≡ 0 → left ≡ over new old
  fits : answer.refusal ≡ 0 → length new ≤ length old

over_length : (new old : List ℕ) → length new ≤ length old → length (over new old) ≡ length old
over_length new old h =
    let part = length-drop (length new) old in
    length-append new (drop (length new) old) ∙ omega arith

leaves : (c : Call) → Writes (answer_of c) (output c) (before c) (after c) → Leaves c
leaves c w =
    record {
      kept = w.refused;
      written = λ e. ap (take (length (output c))) (w.done e) ∙ take-append_seam (output c) (drop (length (output c)) (before c));
      fits = w.fits;
      beyond = beyond (ℕ_discrete (answer_of c).refusal 0);
      same_length = same (ℕ_discrete (answer_of c).refusal 0);
    }
  where
    beyond : Dec ((answer_of c).refusal ≡ 0) → drop (length (output c)) (after c) ≡ drop (length (output c)) (before c)
    beyond (yes e) = ap (drop (length (output c))) (w.done e) ∙ drop-append_seam (output c) (drop (length (output c)) (before c))
    beyond (no e) = ap (drop (length (output c))) (w.refused e)

    same : Dec ((answer_of c).refusal ≡ 0) → length (after c) ≡ length (before c)
    same (yes e) = ap length (w.done e) ∙ over_length (output c) (before c) (w.fits e)
    same (no e) = ap length (w.refused e)

-- nothing is lent
writes_nothing : (answer : Answer) → Writes answer [] [] []
writes_nothing answer = record { refused = λ e. refl; done = λ e. refl; fits = λ e. omega arith }

left_kept : (r : Refusal) (new old : List ℕ) → (r.number ≡ 0 → ⊥) → left r new old ≡ old
left_kept r new old h = ap (λ b. cond b new old) (ne_eqb r.number 0 h)

left_new : (r : Refusal) (new old : List ℕ) → r.number ≡ 0 → left r new old ≡ new
left_new r new old h = ap (λ b. cond b new old) (eq-eqb r.number 0 h)

-- an image that covers a lent one of its length
covers : (new old : List ℕ) → length old ≡ length new → new ≡ over new old
covers new old e =
    sym (append-nil new) ∙ ap (λ r. new ++ r) (sym (drop_of_length-le old {i = length new} (omega arith)))

-- a call whose answer has the number of a refusal, and whose buffer is what that refusal leaves
writes_left : (answer : Answer) (r : Refusal) (next new old : List ℕ) → answer.refusal ≡ r.number → (answer.refusal ≡ 0 → (next ≡ over new old) × (length new ≤ length old)) → Writes answer new old (left r next old)
writes_left answer r next new old same done =
    record {
      refused = λ h. left_kept r next old (λ e. h (same ∙ e));
      done = λ e. left_new r next old (sym same ∙ e) ∙ (done e).0;
      fits = λ e. (done e).1;
    }

-- where the length of an image isn't wrong
right_length : (t : Table) (s : State) (image : List ℕ) → (WrongImageLength t image → ⊥) → length image ≡ length (image_of t s)
right_length t s image h = go (ℕ_discrete (length image) (image_length t))
  where
    go : Dec (length image ≡ image_length t) → length image ≡ length (image_of t s)
    go (yes e) = e ∙ sym (length_image t s)
    go (no e) = absurd (h e)

image_done : (t : Table) (s : State) (image : List ℕ) → (WrongImageLength t image → ⊥) → (image_of t s ≡ over (image_of t s) image) × (length (image_of t s) ≤ length image)
image_done t s image h =
    let e = right_length t s image h in
    (covers (image_of t s) image e, omega arith)

room_done : (new buffer : List ℕ) → (NoRoom new buffer → ⊥) → (over new buffer ≡ over new buffer) × (length new ≤ length buffer)
room_done new buffer h = (refl, omega arith)

-- what an accepted answer had
accepted_had : (c : Tries) {tried : Tried} → Trying c tried → (answer : Answer) → Exactly answer (Ground c) → answer.refusal ≡ 0 → Had c
accepted_had c h answer exact e = had c h ((exact answer.refusal answer.place).0 (refl, refl)) e

fresh_writes : (upload image : List ℕ) → Writes (fresh_answer upload image) (image_of (table_of upload) (fresh (table_of upload))) image (fresh_image upload image)
unfolding fresh_answer fresh_image
fresh_writes upload image =
    writes_left (fresh_answer upload image) (fresh_refusal upload image) (image_of (table_of upload) (fresh (table_of upload))) _ image (answered_given (fresh_refusal upload image) _ _ _).0
    (λ e. image_done (table_of upload) (fresh (table_of upload)) image (accepted_had (fresh_tries upload image) (fresh_trying upload image) (fresh_answer upload image) (exactly_when.fresh upload image) e).ready.image)

run_writes : (upload image : List ℕ) → Writes (run_answer upload image) (image_of (table_of upload) (runner (table_of upload)).state) image (run_image upload image)
unfolding run_answer run_image
run_writes upload image =
    writes_left (run_answer upload image) (fresh_refusal upload image) (image_of (table_of upload) (runner (table_of upload)).state) _ image (answered_given (fresh_refusal upload image) _ _ _).0
    (λ e. image_done (table_of upload) (runner (table_of upload)).state image (accepted_had (fresh_tries upload image) (fresh_trying upload image) (run_answer upload image) (exactly_when.run upload image) e).ready.image)

list_writes : (upload image buffer : List ℕ) → Writes (list_answer upload image buffer) (list_of_image upload image) buffer (list_buffer upload image buffer)
unfolding list_answer list_buffer
list_writes upload image buffer =
    writes_left (list_answer upload image buffer) (list_refusal upload image buffer) (over (list_of_image upload image) buffer) (list_of_image upload image) buffer (answered_given (list_refusal upload image buffer) _ _ _).0
    (λ e. room_done (list_of_image upload image) buffer (accepted_had (list_tries upload image buffer) (list_trying upload image buffer) (list_answer upload image buffer) (exactly_when.list upload image buffer) e).room)

step_writes : (upload image : List ℕ) (kind x y : ℕ) → Writes (step_answer upload image kind x y) (image_of (table_of upload) (step_state upload image kind x y)) image (step_image upload image kind x y)
unfolding step_answer step_image
step_writes upload image kind x y =
    let c = step_tries upload image kind x y in
    let a = step_answer upload image kind x y in
    writes_left a (step_refusal upload image kind x y) (image_of (table_of upload) (step_state upload image kind x y)) _ image (answered_given (step_refusal upload image kind x y) _ _ _).0
    (λ e. image_done (table_of upload) (step_state upload image kind x y) image (λ h. (accepted_had c (step_trying upload image kind x y) a (exactly_when.step upload image kind x y) e).ready.image (not_the_length h)))

lines_writes : (batch buffer : List ℕ) → Writes (lines_answer batch buffer) (text_of batch) buffer (lines_buffer batch buffer)
unfolding lines_answer lines_buffer
lines_writes batch buffer =
    writes_left (lines_answer batch buffer) (lines_refusal batch buffer) (over (text_of batch) buffer) (text_of batch) buffer refl
    (λ e. room_done (text_of batch) buffer (roomy ((exactly_when.lines batch buffer (lines_answer batch buffer).refusal (lines_answer batch buffer).place).0 (refl, refl)) e))
  where
    roomy : {number place : ℕ} → LinesGround batch buffer number place → number ≡ 0 → NoRoom (text_of batch) buffer → ⊥
    roomy (written h) e = h
    roomy (no_room h) e = absurd (omega arith)

pub call_leaves : (c : Call) → Leaves c
call_leaves (fresh_call upload image) = leaves (fresh_call upload image) (fresh_writes upload image)
call_leaves (run_call upload image) = leaves (run_call upload image) (run_writes upload image)
call_leaves (report_call upload image) = leaves (report_call upload image) (writes_nothing (report_answer upload image))
call_leaves (list_call upload image buffer) = leaves (list_call upload image buffer) (list_writes upload image buffer)
call_leaves (step_call upload image kind x y) = leaves (step_call upload image kind x y) (step_writes upload image kind x y)
call_leaves (replay_call upload) = leaves (replay_call upload) (writes_nothing (replay_answer upload))
call_leaves (entry_call batch i) = leaves (entry_call batch i) (writes_nothing (entry_answer batch i))
call_leaves (lines_call batch buffer) = leaves (lines_call batch buffer) (lines_writes batch buffer)

-- What each call answers and leaves, case by case: the table refused, the image refused, and done.
use Prim.Native.Nat.{ℕ}
use mathlib.Core.Bool.{Bool, true, false, false≢true, ◌&&◌}
use mathlib.Core.Path.{◌≡◌, refl, sym, ap, ◌∙◌}
use mathlib.Core.List.{List}
use lib.ListN.{length}
use borrow.Author.Tests.{eqb-true}
use Rattle.std.proofs.lemmas.Bool.{and_parts}
use Rattle.paper.specs.Table.{Table, table_of}
use Rattle.paper.specs.State.{State, fresh}
use Rattle.paper.specs.Image.{image_length, image_of, state_of, fits, sound}
use Rattle.paper.specs.Refusals.{Refusal, accepted, table_refusal, image_refusal, length_refusal}
use Rattle.paper.specs.Calls.{refused_with, reported, answered, left, fresh_answer, fresh_image, report_answer}
use Rattle.table.proofs.Laws.{accepted_laws}
use Rattle.marks.specs.Lent.{Lent}
use Rattle.std.specs.Prelude.{Option, None, Some, unwrap_or}
use Rattle.automaton.specs.Tried.{Told, outcome_number, Reported}
use Rattle.automaton.specs.declared.Report.{Report}
use Rattle.replay.proofs.Order.{answered_table, left_table, answered_image, left_image, refusal_behind, twelve}

root_told : (n k : ℕ) (o : Option ℕ) → Told n 255 k o → unwrap_or o 255 ≡ k
root_told n k None h = sym h
root_told n k (Some i) h = h.1

-- a report, behind a refusal, its place and the steps taken
pub told : {t : Table} {s : State} {r : Report} (number place steps : ℕ) (outcome root : ℕ) → outcome ≡ outcome_number r.outcome → root ≡ unwrap_or r.root 255 → Reported t s r → record { refusal = number; place = place; steps = steps; outcome = outcome; root = root; waiting = r.waiting } ≡ reported (record { number = number; place = place }) steps t s
told {t} {s} {r} number place steps outcome root e f w =
    let o = e ∙ w.outcome in
    let x = f ∙ root_told t.nodes _ r.root w.root in
    λ j. record {
      refusal = number;
      place = place;
      steps = steps;
      outcome = o j;
      root = x j;
      waiting = w.waiting j;
    }

-- an accepted upload, and an image of its length
pub lent_fits : (upload image : List ℕ) → (table_refusal upload).number ≡ 0 → fits (table_of upload) image ≡ true → Lent upload image
lent_fits upload image h g =
    record { table = accepted_laws upload h; fits = eqb-true (length image) (image_length (table_of upload)) g }

pub lent_here : (upload image : List ℕ) → (table_refusal upload).number ≡ 0 → (fits (table_of upload) image && sound (table_of upload) image) ≡ true → Lent upload image
lent_here upload image h g = lent_fits upload image h (and_parts (fits (table_of upload) image) (sound (table_of upload) image) g).0

pub sound_here : (upload image : List ℕ) → (fits (table_of upload) image && sound (table_of upload) image) ≡ true → sound (table_of upload) image ≡ true
sound_here upload image g = (and_parts (fits (table_of upload) image) (sound (table_of upload) image) g).1

module _ (upload image : List ℕ) where
  pub report_table : ((table_refusal upload).number ≡ 0 → ⊥) → report_answer upload image ≡ refused_with (table_refusal upload)
  unfolding report_answer
  report_table h =
      answered_table upload (image_refusal (table_of upload) image) accepted accepted 0 (table_of upload) (state_of (table_of upload) image) h

  pub report_image : (table_refusal upload).number ≡ 0 → (fits (table_of upload) image && sound (table_of upload) image) ≡ false → report_answer upload image ≡ refused_with twelve
  unfolding report_answer
  report_image h g =
      answered_image upload (fits (table_of upload) image && sound (table_of upload) image) accepted accepted 0 (table_of upload) (state_of (table_of upload) image) h g

  pub report_done : (table_refusal upload).number ≡ 0 → (fits (table_of upload) image && sound (table_of upload) image) ≡ true → report_answer upload image ≡ reported accepted 0 (table_of upload) (state_of (table_of upload) image)
  unfolding report_answer
  report_done h g =
      ap (λ (r : Refusal). answered r 0 (table_of upload) (state_of (table_of upload) image))
      (refusal_behind upload (fits (table_of upload) image && sound (table_of upload) image) accepted accepted h g)

  pub fresh_table : ((table_refusal upload).number ≡ 0 → ⊥) → fresh_answer upload image ≡ refused_with (table_refusal upload)
  unfolding fresh_answer
  fresh_table h =
      answered_table upload (length_refusal (table_of upload) image) accepted accepted 0 (table_of upload) (fresh (table_of upload)) h

  pub fresh_table_left : ((table_refusal upload).number ≡ 0 → ⊥) → fresh_image upload image ≡ image
  unfolding fresh_image
  fresh_table_left h = left_table upload (length_refusal (table_of upload) image) accepted accepted _ image h

  pub fresh_length : (table_refusal upload).number ≡ 0 → fits (table_of upload) image ≡ false → fresh_answer upload image ≡ refused_with twelve
  unfolding fresh_answer
  fresh_length h g =
      answered_image upload (fits (table_of upload) image) accepted accepted 0 (table_of upload) (fresh (table_of upload)) h g

  pub fresh_length_left : (table_refusal upload).number ≡ 0 → fits (table_of upload) image ≡ false → fresh_image upload image ≡ image
  unfolding fresh_image
  fresh_length_left h g = left_image upload (fits (table_of upload) image) accepted accepted _ image h g

  pub fresh_done : (table_refusal upload).number ≡ 0 → fits (table_of upload) image ≡ true → fresh_answer upload image ≡ reported accepted 0 (table_of upload) (fresh (table_of upload))
  unfolding fresh_answer
  fresh_done h g =
      ap (λ (r : Refusal). answered r 0 (table_of upload) (fresh (table_of upload))) (refusal_behind upload (fits (table_of upload) image) accepted accepted h g)

  pub fresh_done_left : (table_refusal upload).number ≡ 0 → fits (table_of upload) image ≡ true → fresh_image upload image ≡ image_of (table_of upload) (fresh (table_of upload))
  unfolding fresh_image
  fresh_done_left h g =
      ap (λ (r : Refusal). left r (image_of (table_of upload) (fresh (table_of upload))) image) (refusal_behind upload (fits (table_of upload) image) accepted accepted h g)

-- The runner on a lent image, step by step, and what a run answers and leaves.
use Prim.Native.Nat.{ℕ, suc, ◌+◌, ◌-◌, ◌≤◌, ◌<◌}
use mathlib.Core.Bool.{Bool, true, false}
use mathlib.Core.Path.{◌≡◌, sym, ap, ◌∙◌}
use mathlib.Core.List.{List}
use native.Mathlib.Omega.{arith}
use native.Mathlib.Numerals.{add-one}
use Rattle.paper.specs.Table.{table_of}
use Rattle.paper.specs.State.{fresh}
use Rattle.paper.specs.Image.{state_of, image_of, fits, sound}
use Rattle.paper.specs.Runner.{Ran, run_from, longest, runner}
use Rattle.paper.specs.Refusals.{Refusal, accepted, table_refusal, length_refusal}
use Rattle.paper.specs.Calls.{refused_with, reported, answered, left, run_answer, run_image}
use Rattle.marks.specs.Lent.{Lent}
use Rattle.image.proofs.Kept.{fresh_holds}
use Rattle.replay.specs.Running.{ran_to, Advanced, RanTo}
use Rattle.replay.proofs.Order.{answered_table, left_table, answered_image, left_image, refusal_behind, twelve}
use Rattle.replay.proofs.Replaying.{same_image}

-- after so many steps: the runner is what it comes to from the state that the image shows
pub record Underway (upload image : List ℕ) (steps : ℕ) : Type 0 where
  pub lent : Lent upload image
  pub is_sound : sound (table_of upload) image ≡ true
  pub left : runner (table_of upload) ≡ run_from (table_of upload) (longest (table_of upload) - steps) (state_of (table_of upload) image) steps

ran_to_is : (upload image : List ℕ) (steps : ℕ) → Lent upload image → sound (table_of upload) image ≡ true → runner (table_of upload) ≡ ran_to upload image steps → RanTo upload steps image
ran_to_is upload image steps lent good e =
    let state : state_of (table_of upload) image ≡ (runner (table_of upload)).state = sym (ap (λ (w : Ran). w.state) e) in
    record {
      is = e;
      left = same_image upload image lent good ∙ ap (image_of (table_of upload)) state;
      holds = record { lent = lent; is_sound = good; shows = state };
    }

pub starts : (upload image l : List ℕ) → Lent upload image → l ≡ image_of (table_of upload) (fresh (table_of upload)) → Underway upload l 0
unfolding runner
starts upload image l lent e =
    let h = fresh_holds upload image l lent e in
    let all : longest (table_of upload) - 0 ≡ longest (table_of upload) = omega arith in
    record {
      lent = h.lent;
      is_sound = h.is_sound;
      left = (λ j. run_from (table_of upload) (sym all j) (sym h.shows j) 0);
    }

module _ (upload image : List ℕ) (steps : ℕ) (h : Underway upload image steps) where
  pub run_out : longest (table_of upload) ≤ steps → RanTo upload steps image
  unfolding run_from
  run_out l =
      let none : longest (table_of upload) - steps ≡ 0 = omega arith in
      ran_to_is upload image steps h.lent h.is_sound (h.left ∙ ap (λ (k : ℕ). run_from (table_of upload) k (state_of (table_of upload) image) steps) none)

  module _ (after : List ℕ) (moved : Bool) (below : steps < longest (table_of upload)) (w : Advanced upload image moved after) where
    one_more : runner (table_of upload) ≡ run_from (table_of upload) (suc (longest (table_of upload) - suc steps)) (state_of (table_of upload) image) steps
    one_more =
        let more : longest (table_of upload) - steps ≡ suc (longest (table_of upload) - suc steps) = omega arith in
        h.left ∙ ap (λ (k : ℕ). run_from (table_of upload) k (state_of (table_of upload) image) steps) more

    pub runs_on : moved ≡ true → Underway upload after (steps + 1)
    runs_on e =
        record {
          lent = w.lent;
          is_sound = w.is_sound;
          left = rw (add-one steps) (one_more ∙ w.goes e (longest (table_of upload) - suc steps) steps);
        }

    pub comes_to_rest : moved ≡ false → RanTo upload steps after
    comes_to_rest e =
        ran_to_is upload after steps w.lent w.is_sound (one_more ∙ w.rests e (longest (table_of upload) - suc steps) steps)

-- what a run answers and leaves
module _ (upload image : List ℕ) where
  pub run_table : ((table_refusal upload).number ≡ 0 → ⊥) → run_answer upload image ≡ refused_with (table_refusal upload)
  unfolding run_answer
  run_table h =
      answered_table upload (length_refusal (table_of upload) image) accepted accepted (runner (table_of upload)).steps (table_of upload) (runner (table_of upload)).state h

  pub run_table_left : ((table_refusal upload).number ≡ 0 → ⊥) → run_image upload image ≡ image
  unfolding run_image
  run_table_left h = left_table upload (length_refusal (table_of upload) image) accepted accepted _ image h

  pub run_length : (table_refusal upload).number ≡ 0 → fits (table_of upload) image ≡ false → run_answer upload image ≡ refused_with twelve
  unfolding run_answer
  run_length h g =
      answered_image upload (fits (table_of upload) image) accepted accepted (runner (table_of upload)).steps (table_of upload) (runner (table_of upload)).state h g

  pub run_length_left : (table_refusal upload).number ≡ 0 → fits (table_of upload) image ≡ false → run_image upload image ≡ image
  unfolding run_image
  run_length_left h g = left_image upload (fits (table_of upload) image) accepted accepted _ image h g

  pub run_done : (table_refusal upload).number ≡ 0 → fits (table_of upload) image ≡ true → run_answer upload image ≡ reported accepted (runner (table_of upload)).steps (table_of upload) (runner (table_of upload)).state
  unfolding run_answer
  run_done h g =
      ap (λ (r : Refusal). answered r (runner (table_of upload)).steps (table_of upload) (runner (table_of upload)).state)
      (refusal_behind upload (fits (table_of upload) image) accepted accepted h g)

  pub run_done_left : (table_refusal upload).number ≡ 0 → fits (table_of upload) image ≡ true → run_image upload image ≡ image_of (table_of upload) (runner (table_of upload)).state
  unfolding run_image
  run_done_left h g =
      ap (λ (r : Refusal). left r (image_of (table_of upload) (runner (table_of upload)).state) image) (refusal_behind upload (fits (table_of upload) image) accepted accepted h g)

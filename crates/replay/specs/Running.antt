-- Where the runner on a lent image has come to.
use Rattle.std.specs.Prelude.{ℕ, suc, Bool, true, false, ◌≡◌, List}
use Rattle.paper.specs.Table.{table_of}
use Rattle.paper.specs.Image.{state_of, image_of, sound}
use Rattle.paper.specs.Runner.{Ran, run_from, runner}
use Rattle.marks.specs.Lent.{Lent}
use Rattle.image.specs.Taken.{Holds}

-- the state that an image shows, after so many steps
abbrev pub ran_to : List ℕ → List ℕ → ℕ → Ran
ran_to upload image steps = record { state = state_of (table_of upload) image; steps = steps }

-- the first listed step was taken, or none is listed and the image is as it was
pub record Advanced (upload image : List ℕ) (moved : Bool) (after : List ℕ) : Type 0 where
  pub lent : Lent upload after
  pub is_sound : sound (table_of upload) after ≡ true
  pub goes : moved ≡ true → (left taken : ℕ) → run_from (table_of upload) (suc left) (state_of (table_of upload) image) taken ≡ run_from (table_of upload) left (state_of (table_of upload) after) (suc taken)
  pub rests : moved ≡ false → (left taken : ℕ) → run_from (table_of upload) (suc left) (state_of (table_of upload) image) taken ≡ ran_to upload after taken

-- the runner, with its end image
pub record RanTo (upload : List ℕ) (steps : ℕ) (image : List ℕ) : Type 0 where
  pub is : runner (table_of upload) ≡ ran_to upload image steps
  pub left : image ≡ image_of (table_of upload) (runner (table_of upload)).state
  pub holds : Holds upload image (runner (table_of upload)).state

-- After a possible step, and after the fresh image is made, an image is again lent and sound, and shows the new state.
use mathlib.Core.Bool.{true}
use mathlib.Core.Path.{◌≡◌, ap, ◌∙◌}
use mathlib.Core.List.{List}
use Prim.Native.Nat.{ℕ}
use lib.ListN.{length}
use borrow.Author.Tests.{ltb-true}
use Rattle.counting.proofs.Booleans.{and_left}
use Rattle.paper.specs.Table.{Table, table_of}
use Rattle.paper.specs.State.{State, fresh}
use Rattle.paper.specs.Steps.{Step, possible, effect}
use Rattle.paper.specs.Image.{image_of, state_of, sound}
use Rattle.paper.specs.Meanings.{Shown, SoundMarks}
use Rattle.paper.proofs.Images.{length_image, shown_state_of, shown_effect, shown_fresh, state_of_image, sound_marks, sound_image, sound_kept, sound_fresh}
use Rattle.upload.specs.declared.step.NodeKind.TheVariants.{ChildrenKnown, BecomeRoot}
use Rattle.upload.specs.declared.step.LinkKind.TheVariants.{AddChild, Acknowledge, Resolve}
use Rattle.upload.specs.declared.step.Step
use Rattle.upload.specs.declared.step.Step.TheVariants.{Node, Link}
use Rattle.upload.specs.Kinds.{meant}
use Rattle.marks.specs.Lent.{Lent}
use Rattle.image.specs.Taken.{InTable, Holds}

-- what a possible step names is in the table
pub possible_in_table : (t : Table) (s : State) (step : Step.Step) → possible t s (meant step) ≡ true → InTable t step
unfolding possible
possible_in_table t s (Node ChildrenKnown x) e = ltb-true x t.nodes (and_left _ _ e)
possible_in_table t s (Node BecomeRoot x) e = ltb-true x t.nodes (and_left _ _ e)
possible_in_table t s (Link AddChild d) e = ltb-true d.link t.links (and_left _ _ e)
possible_in_table t s (Link Acknowledge d) e = ltb-true d.link t.links (and_left _ _ e)
possible_in_table t s (Link Resolve d) e = ltb-true d.link t.links (and_left _ _ e)

-- the image of a state without marks outside the table and with no message of a waiting node
pub image_holds : (upload image l : List ℕ) (s : State) → Lent upload image → Shown (table_of upload) s → SoundMarks (table_of upload) s → l ≡ image_of (table_of upload) s → Holds upload l s
image_holds upload image l s lent shown marks e =
    record {
      lent = record { table = lent.table; fits = ap length e ∙ length_image (table_of upload) s };
      is_sound = ap (sound (table_of upload)) e ∙ sound_image (table_of upload) s marks shown;
      shows = ap (state_of (table_of upload)) e ∙ state_of_image (table_of upload) s shown;
    }

pub step_holds : (upload image l : List ℕ) (x : Step) → Lent upload image → sound (table_of upload) image ≡ true → possible (table_of upload) (state_of (table_of upload) image) x ≡ true → l ≡ image_of (table_of upload) (effect (table_of upload) (state_of (table_of upload) image) x) → Holds upload l (effect (table_of upload) (state_of (table_of upload) image) x)
step_holds upload image l x lent good can e =
    image_holds upload image l (effect t s x) lent (shown_effect t s x lent.table.ends (shown_state_of t image) can) (sound_kept t s x (sound_marks t image good)) e
  where
    t : Table
    t = table_of upload

    s : State
    s = state_of t image

pub fresh_holds : (upload image l : List ℕ) → Lent upload image → l ≡ image_of (table_of upload) (fresh (table_of upload)) → Holds upload l (fresh (table_of upload))
fresh_holds upload image l lent e =
    image_holds upload image l (fresh (table_of upload)) lent (shown_fresh (table_of upload)) (sound_fresh (table_of upload)) e

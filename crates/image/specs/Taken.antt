-- What a step asks of an image and of the table, and what is known of an image after it.
use Rattle.std.specs.Prelude.{ℕ, ◌<◌, true, ◌≡◌, List, length}
use Rattle.paper.specs.Table.{Table, table_of}
use Rattle.paper.specs.State.{State}
use Rattle.paper.specs.Image.{image_length, state_of, sound}
use Rattle.upload.specs.declared.step.Step.{Step}
use Rattle.upload.specs.declared.step.Step.TheVariants.{Node, Link}
use Rattle.marks.specs.Lent.{Lent}

-- a sound image of a table's length
pub record SoundImage (t : Table) (image : List ℕ) : Type 0 where
  pub fits : length image ≡ image_length t
  pub is_sound : sound t image ≡ true

-- the node or the link that a step names is in the table
abbrev pub InTable : Table → Step → Type 0
InTable t (Node k x) = x < t.nodes
InTable t (Link k d) = d.link < t.links

-- the image of a state, lent with the upload, sound, and showing that state
pub record Holds (upload image : List ℕ) (s : State) : Type 0 where
  pub lent : Lent upload image
  pub is_sound : sound (table_of upload) image ≡ true
  pub shows : state_of (table_of upload) image ≡ s

-- What a view shows: a table, the bytes of its directions, and a state.
use Rattle.std.specs.Prelude.{ℕ}
use Rattle.paper.specs.Upload.{byte_at}
use Rattle.paper.specs.Table.{Table}
use Rattle.paper.specs.State.{State}
use Rattle.paper.specs.Image.{direction_at, state_of}
use Rattle.upload.specs.declared.Direction.{Direction}
use Rattle.cabling.specs.Cables.{cables}
use Rattle.marks.specs.declared.View.{View}

-- the table
abbrev pub table : View → Table
table v = cables v.cabling

-- the byte of a direction
abbrev pub byte_of : View → Direction → ℕ
byte_of v d = byte_at v.image.now (direction_at (table v) d.link d.back)

-- the state that the image shows
abbrev pub shown : View → State
shown v = state_of (table v) v.image.now

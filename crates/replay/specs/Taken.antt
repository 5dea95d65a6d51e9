-- What trying one action on a lent image comes to.
use Rattle.std.specs.Prelude.{ℕ, cond, ◌≡◌, List, eqb}
use Rattle.paper.specs.Table.{table_of}
use Rattle.paper.specs.State.{State}
use Rattle.paper.specs.Image.{state_of, image_of}
use Rattle.paper.specs.Actions.{reading, refused_by, state_after}
use Rattle.image.specs.Taken.{Holds}

-- the state after an action: the next if it is taken, else the one as it is
abbrev pub next_state : List ℕ → State → ℕ → ℕ → ℕ → State
next_state upload s kind x y =
    let t = table_of upload in
    cond (eqb (refused_by t s (reading t kind x y)) 0) (state_after t s (reading t kind x y)) s

-- the number by which it is refused, and the image: of the next state if it is taken, else as it was
pub record Taken (upload image : List ℕ) (kind x y number : ℕ) (after : List ℕ) : Type 0 where
  pub refused : number ≡ refused_by (table_of upload) (state_of (table_of upload) image) (reading (table_of upload) kind x y)
  pub left : after ≡ cond (eqb number 0) (image_of (table_of upload) (state_after (table_of upload) (state_of (table_of upload) image) (reading (table_of upload) kind x y))) image
  pub holds : Holds upload after (next_state upload (state_of (table_of upload) image) kind x y)

-- What a call's inner functions are lent: an accepted upload, and an image of its length.
use Rattle.std.specs.Prelude.{◌≡◌, List, ℕ, length}
use Rattle.paper.specs.Table.{table_of}
use Rattle.paper.specs.Image.{image_length}
use Rattle.cabling.specs.Accepted.{Accepted}

pub record Lent (upload image : List ℕ) : Type 0 where
  pub table : Accepted upload
  pub fits : length image ≡ image_length (table_of upload)

-- What a call adds to the entries of a list.
use Rattle.std.specs.Prelude.{ℕ, ◌+◌, ◌≤◌, List, ◌≡◌}
use Rattle.listing.specs.Wrote.{Wrote}
use Rattle.listing.specs.declared.Writer.{Writer}

-- the bytes of l follow those of `before` in its buffer, and make `most` entries at most
pub record Appends (before : Writer) (l : List ℕ) (most : ℕ) (after : Writer) : Type 0 where
  pub wrote : Wrote before.out.now before.count l after.out.now after.count
  pub few : after.count ≤ before.count + most
  pub lent : after.out.ghost_name ≡ before.out.ghost_name

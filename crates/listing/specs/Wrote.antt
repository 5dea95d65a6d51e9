-- What a list of entries leaves in a lent buffer, and how many entries there are.
use Rattle.std.specs.Prelude.{ℕ, ◌+◌, ◌*◌, List, ◌≡◌, length}
use Rattle.std.proofs.lemmas.List.Edits.{sets}

-- the bytes of l stand in the buffer behind the first `from` entries, as far as it has room, and `next` entries stand there then
pub record Wrote (buffer : List ℕ) (from : ℕ) (l : List ℕ) (after : List ℕ) (next : ℕ) : Type 0 where
  pub bytes : after ≡ sets buffer (3 * from) l
  pub count : 3 * next ≡ 3 * from + length l

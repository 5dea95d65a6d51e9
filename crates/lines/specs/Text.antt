-- What a method of a text leaves: bytes written into its lent buffer from its place on.
use Rattle.std.specs.Prelude.{ℕ, ◌+◌, ◌/◌, ◌%◌, ◌≡◌, List, [], ◌∷◌, cond, leb, length}
use Rattle.std.proofs.lemmas.List.Edits.{sets}
use Rattle.paper.specs.Lines.{digit}
use Rattle.lines.specs.declared.Text.{Text}

-- bytes written, as far as there is room, and the place behind them
pub record Writes (before : Text) (bytes : List ℕ) (after : Text) : Type 0 where
  pub left : after.out.now ≡ sets before.out.now before.at bytes
  pub place : after.at ≡ before.at + length bytes
  pub same_buffer : after.out.ghost_name ≡ before.out.ghost_name

-- the digit of a number at a power of ten, where the number reaches it
abbrev pub reached_digit : ℕ → ℕ → List ℕ
reached_digit power k = cond (leb power k) (digit (k / power % 10) ∷ []) []

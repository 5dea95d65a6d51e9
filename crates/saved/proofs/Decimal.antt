-- A number in decimal is what std prints.
use Prim.Native.Nat.{ℕ, zero, suc, ◌*◌, ◌/◌, ◌^◌, ◌≤◌, ◌<◌}
use mathlib.Core.Path.{◌≡◌, sym, ◌∙◌}
use native.Mathlib.Omega.{arith}
use native.Mathlib.Decide.{dec_le}
use borrow.Author.Tests.{le-ltb}
use Rattle.std.specs.Fmt.{decimal}
use Rattle.std.proofs.lemmas.Fmt.{decimal_digit, decimal_step}
use Rattle.paper.specs.Lines.{digits}
use Rattle.lines.proofs.Decimal.{digits_few}
use Rattle.saved.specs.Saved.{wide}

-- the bound on a number of so many digits and one
abbrev bound : ℕ → ℕ
bound zero = 10
bound (suc more) = 10 * bound more

printed : (more k : ℕ) → k < bound more → k < 2 ^ 64 → decimal k ≡ digits more k
unfolding digits
printed zero k few fits = decimal_digit k few
printed (suc more) k most fits = go (printed more (k / 10) (omega arith) (omega arith)) (dec_le 10 k)
  where
    go : decimal (k / 10) ≡ digits more (k / 10) → Dec (10 ≤ k) → decimal k ≡ digits (suc more) k
    go tenth (yes ten) = decimal_step k ten fits ∙ rw (le-ltb k 10 ten, tenth)
    go tenth (no few) = decimal_digit k (omega arith) ∙ sym (digits_few (suc more) k (omega arith))

pub printed_wide : (k : ℕ) → k < 2 ^ 64 → decimal k ≡ wide k
printed_wide k fits = printed 19 k (omega arith) fits

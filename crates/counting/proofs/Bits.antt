-- A test as a number is 0 or 1.
use Prim.Native.Nat.{◌+◌, ◌≤◌}
use mathlib.Core.Bool.{Bool, true, false, not}
use mathlib.Core.Path.{◌≡◌, refl, ap}
use native.Mathlib.Omega.{arith}
use Rattle.counting.specs.Count.{bit}

pub bit_most : (b : Bool) → bit b ≤ 1
bit_most true = omega arith
bit_most false = omega arith

pub bit_true : {b : Bool} → b ≡ true → bit b ≡ 1
bit_true e = ap bit e

pub bit_false : {b : Bool} → b ≡ false → bit b ≡ 0
bit_false e = ap bit e

pub bit_zero : (b : Bool) → bit b ≡ 0 → b ≡ false
bit_zero true e = absurd (omega arith)
bit_zero false e = refl

pub bit_not : (b : Bool) → bit (not b) + bit b ≡ 1
bit_not true = refl
bit_not false = refl

-- where one test implies the other
pub bit_mono : (b c : Bool) → (b ≡ true → c ≡ true) → bit b ≤ bit c
bit_mono true c h = rw (h refl) (omega arith)
bit_mono false c h = omega arith

-- What a computed test says of its parts.
use Prim.Native.Nat.{ℕ}
use mathlib.Core.Bool.{Bool, true, false, ◌&&◌, beq, true≢false, false≢true}
use mathlib.Core.Path.{◌≡◌, refl, sym, ◌∙◌}
use lib.Dec.{eqb}
use borrow.Author.Tests.{eq-eqb}

pub clash {ℓ} : {A : Type ℓ} {b : Bool} → b ≡ true → b ≡ false → A
clash e f = absurd (true≢false (sym e ∙ f))

-- one half of a test by its name, which many cite: std's `and_parts` gives both halves as a pair
pub and_left : (a b : Bool) → a && b ≡ true → a ≡ true
and_left true b e = refl
and_left false b e = e

pub and_right : (a b : Bool) → a && b ≡ true → b ≡ true
and_right true b e = e
and_right false b e = absurd (false≢true e)

-- std has this of numbers that are equal by a proof; here they are the same one
pub eqb_same : (a : ℕ) → eqb a a ≡ true
eqb_same a = eq-eqb a a refl

pub beq_same : (b : Bool) → beq b b ≡ true
beq_same true = refl
beq_same false = refl

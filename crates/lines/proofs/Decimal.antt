-- A number in decimal: a digit for each power of ten that it reaches, from the highest down, and its last digit.
use Prim.Native.Nat.{ℕ, zero, suc, ◌+◌, ◌*◌, ◌/◌, ◌%◌, ◌<◌, ◌≤◌}
use mathlib.Core.Path.{◌≡◌, refl, sym, ap, ◌∙◌}
use mathlib.Core.List.{List, [], ◌∷◌, ◌++◌}
use native.Mathlib.Omega.{arith}
use native.Mathlib.Nat.{mod-eq_of_lt, div-div-eq-div-mul}
use native.Mathlib.Decide.{dec_le}
use mathlib.Core.Bool.{Bool, true, false, cond}
use lib.Dec.{ltb, leb}
use mir.Val.{bool_byte}
use borrow.Author.Tests.{lt-ltb, le-ltb, le-leb, lt-leb}
use lib.ListN.{length, length-append}
use Rattle.paper.specs.Lines.{digit, digits, decimal}
use Rattle.lines.specs.Text.{reached_digit}

pub digits_few : (more k : ℕ) → k < 10 → digits more k ≡ digit k ∷ []
unfolding digits
digits_few zero k h = refl
digits_few (suc more) k h = rw (lt-ltb k 10 h)

cond_most : (b : Bool) (l m : List ℕ) (n : ℕ) → length l ≤ n → length m ≤ n → length (cond b l m) ≤ n
cond_most true l m n p q = p
cond_most false l m n p q = q

-- at most so many digits and one
pub digits_most : (more k : ℕ) → length (digits more k) ≤ more + 1
unfolding digits
digits_most zero k = omega arith
digits_most (suc more) k =
    let front = digits more (k / 10) in
    let last = digit (k % 10) ∷ [] in
    let h = digits_most more (k / 10) in
    cond_most (ltb k 10) (digit k ∷ []) (front ++ last) (suc more + 1) (omega arith) (omega (arith, length-append front last))

-- the bound on a number of so many digits and one
abbrev bound : ℕ → ℕ
bound zero = 10
bound (suc more) = 10 * bound more

-- the digits at so many powers from p up that a number reaches, the highest first
abbrev pub reached_digits : ℕ → ℕ → ℕ → List ℕ
reached_digits zero p k = []
reached_digits (suc more) p k = reached_digits more (10 * p) k ++ reached_digit p k

reached_none : (more p k : ℕ) → k < p → reached_digits more p k ≡ []
reached_none zero p k h = refl
reached_none (suc more) p k h = let above = reached_none more (10 * p) k (omega arith) in rw (lt-leb p k h, above)

-- a number reaches 10 p where its tenth reaches p
leb_tenth : (p k : ℕ) → leb (10 * p) k ≡ leb p (k / 10)
leb_tenth p k = go (dec_le p (k / 10))
  where
    go : Dec (p ≤ k / 10) → leb (10 * p) k ≡ leb p (k / 10)
    go (yes h) = le-leb (10 * p) k (omega arith) ∙ sym (le-leb p (k / 10) h)
    go (no h) = lt-leb (10 * p) k (omega arith) ∙ sym (lt-leb p (k / 10) (omega arith))

reached_tenth : (more p k : ℕ) → reached_digits more (10 * p) k ≡ reached_digits more p (k / 10)
reached_tenth zero p k = refl
reached_tenth (suc more) p k = rw (leb_tenth p k, reached_tenth more (10 * p) k, div-div-eq-div-mul k 10 p)

pub digits_reached : (more k : ℕ) → k < bound more → digits more k ≡ reached_digits more 10 k ++ (digit (k % 10) ∷ [])
unfolding digits
digits_reached zero k h = rw (mod-eq_of_lt h)
digits_reached (suc more) k h = go (digits_reached more (k / 10) (omega arith)) (dec_le 10 k)
  where
    go : digits more (k / 10) ≡ reached_digits more 10 (k / 10) ++ (digit (k / 10 % 10) ∷ []) → Dec (10 ≤ k) → digits (suc more) k ≡ reached_digits (suc more) 10 k ++ (digit (k % 10) ∷ [])
    go tenth (yes h) = rw (le-ltb k 10 h, le-leb 10 k h, reached_tenth more 10 k, tenth)
    go tenth (no h) =
        let few : k < 10 = omega arith in
        rw (digits_few (suc more) k few, reached_none (suc more) 10 k few, mod-eq_of_lt few)

-- a digit where the power is reached
width_reached : (power k : ℕ) → length (reached_digit power k) ≡ bool_byte (leb power k)
width_reached power k = go (leb power k)
  where
    go : (b : Bool) → length (cond b (digit (k / power % 10) ∷ []) []) ≡ bool_byte b
    go true = refl
    go false = refl

-- one digit more than there are powers of ten that it reaches
pub decimal_width : (k : ℕ) → k < 100000 → length (decimal k) ≡ 1 + bool_byte (leb 10 k) + bool_byte (leb 100 k) + bool_byte (leb 1000 k) + bool_byte (leb 10000 k)
decimal_width k h =
    ap length (digits_reached 4 k h)
    ∙ simp length-append (rw (width_reached 10 k, width_reached 100 k, width_reached 1000 k, width_reached 10000 k) (omega arith))

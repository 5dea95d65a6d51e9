-- A number below 100,000 is printed in decimal, with no zero in front.
use Prim.Native.Nat.{ℕ, zero, suc, ◌+◌, ◌-◌, ◌*◌, ◌/◌, ◌%◌, ◌<◌, ◌≤◌}
use mathlib.Core.Bool.{Bool, true, false, cond}
use mathlib.Core.Path.{◌≡◌, refl, ap, ◌∙◌}
use mathlib.Core.List.{List, [], ◌∷◌, ◌++◌}
use lib.Dec.{ltb}
use borrow.Author.Tests.{ltb-true, ltb-false}
use native.Mathlib.Omega.{arith}
use Rattle.paper.specs.Upload.{byte_at}
use Rattle.paper.specs.Lines.{digit, digits, decimal}
use Rattle.paper.specs.Meanings.{Digits, value_from, InDecimal}

-- the bound on a number of so many digits and one
abbrev pub bound : ℕ → ℕ
bound zero = 10
bound (suc more) = 10 * bound more

value_append : (read : ℕ) (l : List ℕ) (d : ℕ) → value_from read (l ++ (d ∷ [])) ≡ 10 * value_from read l + (d - digit 0)
value_append read [] d = refl
value_append read (c ∷ l) d = value_append (10 * read + (c - digit 0)) l d

digits_append : (l : List ℕ) (d : ℕ) → Digits l → digit 0 ≤ d → d ≤ digit 9 → Digits (l ++ (d ∷ []))
digits_append [] d h low high = (low, high, tt)
digits_append (c ∷ l) d h low high = (h.0, h.1, digits_append l d h.2 low high)

first_append : (l : List ℕ) (d : ℕ) → digit 0 < byte_at l 0 → digit 0 < byte_at (l ++ (d ∷ [])) 0
first_append [] d h = absurd (omega arith)
first_append (c ∷ l) d h = h

-- one digit
one_digit : (k : ℕ) → k < 10 → InDecimal k (digit k ∷ [])
one_digit k h =
    record {
      all_digits = (omega arith, omega arith, tt);
      value = omega arith;
      zero_alone = λ e. ap (λ k. digit k ∷ []) e;
      no_zero_first = λ g. omega arith;
    }

pub digits_decimal : (more k : ℕ) → k < bound more → InDecimal k (digits more k)
unfolding digits
digits_decimal zero k h = one_digit k h
digits_decimal (suc more) k h = go (ltb k 10) refl (digits_decimal more (k / 10) (omega arith))
  where
    go : (c : Bool) → ltb k 10 ≡ c → InDecimal (k / 10) (digits more (k / 10)) → InDecimal k (cond c (digit k ∷ []) (digits more (k / 10) ++ (digit (k % 10) ∷ [])))
    go true e front = one_digit k (ltb-true k 10 e)
    go false e front =
        let high = ltb-false k 10 e in
        let value = front.value in
        record {
          all_digits = digits_append (digits more (k / 10)) (digit (k % 10)) front.all_digits (omega arith) (omega arith);
          value = value_append 0 (digits more (k / 10)) (digit (k % 10)) ∙ omega arith;
          zero_alone = λ e. absurd (omega arith);
          no_zero_first = λ g. first_append (digits more (k / 10)) (digit (k % 10)) (front.no_zero_first (omega arith));
        }

pub decimal_is : (k : ℕ) → k < 100000 → InDecimal k (decimal k)
decimal_is k h = digits_decimal 4 k h

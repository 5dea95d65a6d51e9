-- How long the text of a batch can be: 64 lines of 42 bytes.
use Prim.Native.Nat.{ℕ, ◌+◌, ◌≤◌}
use mathlib.Core.Bool.{Bool, true, false}
use mathlib.Core.Path.{◌≡◌, refl, ap}
use mathlib.Core.List.{List, [], ◌∷◌, ◌++◌}
use native.Mathlib.Omega.{arith}
use lib.ListN.{length, length-append}
use Rattle.counting.proofs.Sums.{sum_le}
use Rattle.paper.specs.declared.Answer.{Answer}
use Rattle.paper.specs.Batch.{count_of, header_wrong, entry_answer}
use Rattle.paper.specs.Lines.{decimal, space, newline, line_of, text_of}
use Rattle.lines.proofs.Decimal.{digits_most}
use Rattle.batch.proofs.Text.{text_refused}
use Rattle.batch.proofs.Tests.{header_right}
use Rattle.batch.proofs.Independent.{line_each}
use Rattle.listing.proofs.ListLength.{length_joined, repeated}

-- a list has at most so many bytes
record Most (l : List ℕ) (k : ℕ) : Type 0 where
  fact : length l ≤ k

append_most : (l rest : List ℕ) (a b : ℕ) → Most l a → length rest ≤ b → Most (l ++ rest) (a + b)
append_most l rest a b h g = record { fact = let both = length-append l rest in omega (arith, h.fact) }

-- what has been printed, and a number behind a space
and_number : {l : List ℕ} (most k : ℕ) → Most l most → Most (l ++ (space ∷ decimal k)) (most + 6)
and_number {l} most k h = append_most l (space ∷ decimal k) most 6 h (let digits = digits_most 4 k in omega arith)

line_most : (i : ℕ) (a : Answer) → length (line_of i a) ≤ 42
unfolding line_of
line_most i a =
    (append_most _ (newline ∷ []) 41 1
    (and_number 35 a.waiting
    (and_number 29 a.root
    (and_number 23 a.outcome
    (and_number 17 a.steps (and_number 11 a.place (and_number 5 a.refusal first))))))
    (omega arith)
    ).fact
  where
    first : Most (decimal i) 5
    first = record { fact = digits_most 4 i }

pub text_most : (batch : List ℕ) → length (text_of batch) ≤ 2688
text_most batch = go (header_wrong batch) refl
  where
    go : (b : Bool) → header_wrong batch ≡ b → length (text_of batch) ≤ 2688
    go true e = let same = ap length (text_refused batch e) in omega arith
    go false e =
        let same = ap length (line_each batch e) in
        let whole = length_joined (count_of batch) (λ i. line_of i (entry_answer batch i)) in
        let each = sum_le (count_of batch) (λ i. length (line_of i (entry_answer batch i))) (λ i. 42) (λ i h. line_most i (entry_answer batch i)) in
        let most = repeated 42 (count_of batch) in
        let few = (header_right batch e).most in
        omega arith

-- The lines of a list of answers are the lines of its answers one after another.
use Prim.Native.Nat.{ℕ, zero, suc, ◌+◌, ◌*◌, ◌≤◌, ◌<◌}
use mathlib.Core.Path.{◌≡◌, refl, ap, sym, ◌∙◌}
use mathlib.Core.List.{List, [], ◌∷◌, ◌++◌, append_assoc, append-nil}
use native.Mathlib.Omega.{arith}
use native.Mathlib.Nat.{add-zero, zero-add, add-suc, suc-add}
use native.Mathlib.Numerals.{add-one}
use lib.ListN.{length, take, get_or, length-append}
use lib.Seq.{take-suc, length-take-le}
use Rattle.std.specs.List.{sum_by, enumerate_from}
use Rattle.std.proofs.lemmas.List.Sums.{sum_by-cons}
use Rattle.counting.specs.Count.{list_of, joined}
use Rattle.counting.proofs.Lists.{length_list_of}
use Rattle.paper.specs.declared.Answer.{Answer}
use Rattle.paper.specs.Lines.{line_of, lines_from}
use Rattle.lines.proofs.Decimal.{digits_most}

lines_append : (i : ℕ) (xs ys : List Answer) → lines_from i (xs ++ ys) ≡ lines_from i xs ++ lines_from (i + length xs) ys
unfolding lines_from
lines_append i [] ys = rw (add-zero i)
lines_append i (a ∷ xs) ys =
    ap (λ (l : List ℕ). line_of i a ++ l) (lines_append (suc i) xs ys)
    ∙ sym (append_assoc (line_of i a) (lines_from (suc i) xs) (lines_from (suc i + length xs) ys))
    ∙ ap (λ (n : ℕ). line_of i a ++ lines_from (suc i) xs ++ lines_from n ys) (suc-add i (length xs) ∙ sym (add-suc i (length xs)))

-- line i is the line of answer i, and no line is left out
pub lines_joined : (n : ℕ) (f : ℕ → Answer) → lines_from 0 (list_of n f) ≡ joined n (λ i. line_of i (f i))
unfolding list_of joined lines_from
lines_joined zero f = refl
lines_joined (suc n) f =
    lines_append 0 (list_of n f) (f n ∷ [])
    ∙ rw (lines_joined n f, length_list_of n f, zero-add n, append-nil (line_of n (f n)))

-- what stands past the end of an array of answers
abbrev pub unwritten : Answer
unwritten = record { refusal = 0; place = 0; steps = 0; outcome = 0; root = 0; waiting = 0 }

-- one answer more, one line more
pub lines_next : (i : ℕ) (xs : List Answer) (d : Answer) → i < length xs → lines_from 0 (take i xs) ++ line_of i (get_or xs i d) ≡ lines_from 0 (take (i + 1) xs)
unfolding lines_from
lines_next i xs d h =
    sym
    (rw (add-one i, take-suc xs i d h)
    (lines_append 0 (take i xs) (get_or xs i d ∷ [])
    ∙ rw (length-take-le i xs (omega arith), zero-add i, append-nil (line_of i (get_or xs i d)))))

-- seven numbers of at most five digits, six spaces and a newline
pub line_most : (i : ℕ) (a : Answer) → length (line_of i a) ≤ 42
unfolding line_of
line_most i a =
    simp length-append
    (omega (
      arith,
      digits_most 4 i,
      digits_most 4 a.refusal,
      digits_most 4 a.place,
      digits_most 4 a.steps,
      digits_most 4 a.outcome,
      digits_most 4 a.root,
      digits_most 4 a.waiting,
    ))

pub lines_most : (i : ℕ) (xs : List Answer) → length (lines_from i xs) ≤ 42 * length xs
unfolding lines_from
lines_most i [] = omega arith
lines_most i (a ∷ xs) = omega (arith, length-append (line_of i a) (lines_from (suc i) xs), line_most i a, lines_most (suc i) xs)

-- the lines are as long as each of them together
pub lines_width : (i : ℕ) (xs : List Answer) → sum_by (λ (p : ℕ × Answer). length (line_of p.0 p.1)) (enumerate_from i xs) ≡ length (lines_from i xs)
unfolding lines_from
lines_width i [] = refl
lines_width i (a ∷ xs) =
    sum_by-cons (λ (p : ℕ × Answer). length (line_of p.0 p.1)) (i, a) (enumerate_from (i + 1) xs)
    ∙ ap (λ (n : ℕ). length (line_of i a) + n) (rw (add-one i) (lines_width (suc i) xs))
    ∙ sym (length-append (line_of i a) (lines_from (suc i) xs))

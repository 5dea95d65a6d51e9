-- An answer as it is shown is the answer's part of a printed line.
use Prim.Native.Nat.{ℕ, zero, suc, ◌/◌, ◌%◌, ◌^◌, ◌<◌}
use mathlib.Core.Bool.{Bool, true, false, cond}
use mathlib.Core.Path.{◌≡◌, refl, ap, sym, ◌∙◌}
use mathlib.Core.List.{List, [], ◌∷◌, ◌++◌, append_assoc}
use lib.Dec.{ltb}
use borrow.Author.Tests.{ltb-true, ltb-false}
use native.Mathlib.Omega.{arith}
use Rattle.std.specs.Fmt.{decimal as written}
use Rattle.std.proofs.lemmas.Fmt.{decimal_digit, decimal_step}
use Rattle.paper.specs.declared.Answer.{Answer}
use Rattle.paper.specs.Lines.{digit, digits, decimal, space, newline, line_of}
use Rattle.paper.specs.Shown.{shown}
use Rattle.paper.proofs.Decimal.{bound}

-- what `{}` writes of a number is the number in decimal
digits_written : (more n : ℕ) → n < bound more → n < 2 ^ 64 → digits more n ≡ written n
unfolding digits
digits_written zero n h small = sym (decimal_digit n h)
digits_written (suc more) n h small = go (ltb n 10) refl (digits_written more (n / 10) (omega arith) (omega arith))
  where
    go : (c : Bool) → ltb n 10 ≡ c → digits more (n / 10) ≡ written (n / 10) → cond c (digit n ∷ []) (digits more (n / 10) ++ (digit (n % 10) ∷ [])) ≡ written n
    go true e front = sym (decimal_digit n (ltb-true n 10 e))
    go false e front = ap (λ l. l ++ (digit (n % 10) ∷ [])) front ∙ sym (decimal_step n (ltb-false n 10 e) small)

decimal_written : (n : ℕ) → n < 2 ^ 16 → decimal n ≡ written n
decimal_written n h = digits_written 4 n (omega arith) (omega arith)

cons_append : (x : ℕ) (l m : List ℕ) → (x ∷ l) ++ m ≡ x ∷ (l ++ m)
cons_append x l m = refl

-- what stands behind two texts that are joined stands behind the second
behind : (s : ℕ) (t a l m : List ℕ) → l ++ t ≡ m → (a ++ (s ∷ l)) ++ t ≡ a ++ (s ∷ m)
behind s t a l m p = append_assoc a (s ∷ l) t ∙ ap (λ k. a ++ (s ∷ k)) p

-- the six numbers, and what stands behind them
abbrev six : Answer → List ℕ → List ℕ
six a t = written a.refusal ++ (space ∷ (written a.place ++ (space ∷ (written a.steps ++ (space ∷ (written a.outcome ++ (space ∷ (written a.root ++ (space ∷ (written a.waiting ++ t))))))))))

six_shown : (a : Answer) (t : List ℕ) → shown a ++ t ≡ six a t
six_shown a t =
    let next = behind space t in
    next (written a.refusal) _ _ (next (written a.place) _ _ (next (written a.steps) _ _ (next (written a.outcome) _ _ (append_assoc (written a.root) (space ∷ written a.waiting) t))))

line_six : (i : ℕ) (a : Answer) → a.refusal < 2 ^ 8 → a.place < 2 ^ 16 → a.steps < 2 ^ 16 → a.outcome < 2 ^ 8 → a.root < 2 ^ 8 → a.waiting < 2 ^ 8 →
    line_of i a ≡ decimal i ++ (space ∷ six a (newline ∷ []))
unfolding line_of
line_six i a refusal place steps outcome root waiting =
    rw (decimal_written a.refusal (omega arith), decimal_written a.place place, decimal_written a.steps steps, decimal_written a.outcome (omega arith), decimal_written a.root (omega arith), decimal_written a.waiting (omega arith))
    (simp (append_assoc, cons_append))

-- a line is the entry's number, the answer as it is shown, and a newline
pub line_shown : (i : ℕ) (a : Answer) → a.refusal < 2 ^ 8 → a.place < 2 ^ 16 → a.steps < 2 ^ 16 → a.outcome < 2 ^ 8 → a.root < 2 ^ 8 → a.waiting < 2 ^ 8 →
    line_of i a ≡ decimal i ++ (space ∷ (shown a ++ (newline ∷ [])))
line_shown i a refusal place steps outcome root waiting =
    line_six i a refusal place steps outcome root waiting ∙ ap (λ l. decimal i ++ (space ∷ l)) (sym (six_shown a (newline ∷ [])))

-- Laws of texts one behind another: one text more, and all of them.
use Prim.Native.Nat.{ℕ, ◌+◌, ◌≤◌, ◌<◌}
use mathlib.Core.Path.{◌≡◌, ap, sym, ◌∙◌}
use mathlib.Core.List.{List, [], ◌∷◌, ◌++◌}
use native.Mathlib.Omega.{arith}
use borrow.Author.Tests.{lt-ltb}
use lib.ListN.{length, take, drop, get_or, length-append}
use Rattle.std.specs.Prelude.{fold}
use Rattle.std.specs.Borrow.{Bor}
use Rattle.std.proofs.lemmas.List.{take-append-drop}
use Rattle.std.proofs.lemmas.List.Sums.{fold-append, fold_more}
use Rattle.saved.specs.Placed.{Placed, text_of}

-- what stands past the end of a list of texts
abbrev pub past : Bor (List ℕ)
past = record { ref_ptr = (0, 0); now = [] }

length-text_more : (texts : List (Bor (List ℕ))) (i : ℕ) → i < length texts → length (text_of (take (i + 1) texts)) ≡ length (text_of (take i texts)) + length (get_or texts i past).now
length-text_more texts i h =
    ap length (fold_more (λ (l : List ℕ) (t : Bor (List ℕ)). l ++ t.now) [] texts i past h)
    ∙ length-append (text_of (take i texts)) (get_or texts i past).now

fold_most : (l : List ℕ) (texts : List (Bor (List ℕ))) → length l ≤ length (fold (λ (l : List ℕ) (t : Bor (List ℕ)). l ++ t.now) l texts)
fold_most l [] = omega arith
fold_most l (t ∷ texts) = omega (arith, fold_most (l ++ t.now) texts, length-append l t.now)

-- the first texts are no longer than all
text_most : (texts : List (Bor (List ℕ))) (i : ℕ) → length (text_of (take i texts)) ≤ length (text_of texts)
text_most texts i =
    let whole : text_of texts ≡ fold (λ (l : List ℕ) (t : Bor (List ℕ)). l ++ t.now) (text_of (take i texts)) (drop i texts) = ap text_of (sym (take-append-drop i texts)) ∙ fold-append (λ (l : List ℕ) (t : Bor (List ℕ)). l ++ t.now) [] (take i texts) (drop i texts) in
    omega (arith, ap length whole, fold_most (text_of (take i texts)) (drop i texts))

-- one text more, and no more than all
pub next_text : (texts : List (Bor (List ℕ))) (i : ℕ) → i < length texts → (length (text_of (take (i + 1) texts)) ≡ length (text_of (take i texts)) + length (get_or texts i past).now) × (length (text_of (take (i + 1) texts)) ≤ length (text_of texts))
next_text texts i h = (length-text_more texts i h, text_most texts (i + 1))

-- a text that has no room; docs/PORT.md names it
pub room_is_short : (text before : List ℕ) → length before < length text → Placed text before before 0
room_is_short text before h =
    record { counted = rw (lt-ltb (length before) (length text) h); left = rw (lt-ltb (length before) (length text) h) }

-- Counts of directions: of a stronger test, and where one direction passes, or two.
use Prim.Native.Nat.{ℕ, ◌+◌, ◌≤◌, ◌<◌}
use mathlib.Core.Bool.{Bool, true, false}
use mathlib.Core.Path.{◌≡◌, refl, sym}
use native.Mathlib.Omega.{arith}
use native.Mathlib.Decide.{ℕ_discrete}
use Rattle.counting.specs.Count.{bit}
use Rattle.counting.proofs.Sums.{sum_le, sum_term, sum_pair}
use Rattle.paper.specs.Table.{Table, directions}
use Rattle.counting.proofs.Bits.{bit_mono}
use Rattle.election.proofs.Updates.{either, Same}

-- a stronger test passes for fewer directions
pub directions_le : (t : Table) (p q : ℕ → Bool → Bool) → ((i : ℕ) (b : Bool) → i < t.links → p i b ≡ true → q i b ≡ true) → directions t p ≤ directions t q
directions_le t p q h =
    sum_le
    t.links
    (λ i. bit (p i false) + bit (p i true))
    (λ i. bit (q i false) + bit (q i true))
    (λ k lt.
    let first = bit_mono (p k false) (q k false) (h k false lt) in
    let second = bit_mono (p k true) (q k true) (h k true lt) in
    omega arith)

passed : (p : ℕ → Bool → Bool) (i : ℕ) (b : Bool) → p i b ≡ true → 1 ≤ bit (p i false) + bit (p i true)
passed p i true e = rw e (omega arith)
passed p i false e = rw e (omega arith)

passed_both : (p : ℕ → Bool → Bool) (i : ℕ) (b c : Bool) → p i b ≡ true → p i c ≡ true → (c ≡ b → ⊥) → 2 ≤ bit (p i false) + bit (p i true)
passed_both p i true true e e' n = absurd (n refl)
passed_both p i true false e e' n = rw (e, e') (omega arith)
passed_both p i false true e e' n = rw (e, e') (omega arith)
passed_both p i false false e e' n = absurd (n refl)

-- a direction that passes makes the count at least one
pub directions_one : (t : Table) (p : ℕ → Bool → Bool) (i : ℕ) (b : Bool) → i < t.links → p i b ≡ true → 1 ≤ directions t p
directions_one t p i b lt e =
    let here = passed p i b e in
    let place = sum_term t.links (λ i. bit (p i false) + bit (p i true)) i lt in
    omega arith

-- two directions that pass make the count at least two
pub directions_two : (t : Table) (p : ℕ → Bool → Bool) (i : ℕ) (b : Bool) (j : ℕ) (c : Bool) → i < t.links → j < t.links → p i b ≡ true → p j c ≡ true → (Same i b j c → ⊥) → 2 ≤ directions t p
directions_two t p i b j c li lj e e' n =
    either
    (ℕ_discrete j i)
    (λ q.
    let here = passed_both p i b c e (rw q at e') (λ r. n (q, r)) in
    let place = sum_term t.links (λ i. bit (p i false) + bit (p i true)) i li in
    omega arith)
    (λ d.
    let here = passed p i b e in
    let there = passed p j c e' in
    let places = sum_pair t.links (λ i. bit (p i false) + bit (p i true)) i j li lj (λ q. d (sym q)) in
    omega arith)

-- Counts of the directions into a node that pass a test.
use Prim.Native.Nat.{ℕ, ◌≤◌, ◌<◌}
use mathlib.Core.Bool.{Bool, true, ◌&&◌, and-eq-true_iff}
use mathlib.Core.Path.{◌≡◌}
use lib.Dec.{eqb}
use borrow.Author.Tests.{eq-eqb, eqb-true}
use Rattle.counting.specs.Count.{bit}
use Rattle.counting.proofs.Bits.{bit_false}
use Rattle.counting.proofs.Directions.{both_none}
use Rattle.paper.specs.Table.{Table, target, directions}
use Rattle.election.proofs.Updates.{fails, Same}
use Rattle.election.proofs.Directions.{directions_le, directions_one, directions_two}

module _ (t : Table) (x : ℕ) where
  -- the direction goes into x and passes
  abbrev pub into : (ℕ → Bool → Bool) → ℕ → Bool → Bool
  into p i b = eqb (target t i b) x && p i b

  goes_into : (p : ℕ → Bool → Bool) (i : ℕ) (b : Bool) → target t i b ≡ x → p i b ≡ true → into p i b ≡ true
  goes_into p i b e h = (and-eq-true_iff (eqb (target t i b) x) (p i b)).1 (eq-eqb (target t i b) x e, h)

  taken_apart : (p : ℕ → Bool → Bool) (i : ℕ) (b : Bool) → into p i b ≡ true → (target t i b ≡ x) × (p i b ≡ true)
  taken_apart p i b e =
      let both = (and-eq-true_iff (eqb (target t i b) x) (p i b)).0 e in (eqb-true (target t i b) x both.0, both.1)

  pub into_le : (p q : ℕ → Bool → Bool) → ((i : ℕ) (b : Bool) → i < t.links → target t i b ≡ x → p i b ≡ true → q i b ≡ true) → directions t (into p) ≤ directions t (into q)
  into_le p q h =
      directions_le t (into p) (into q) (λ i b l e. let both = taken_apart p i b e in goes_into q i b both.0 (h i b l both.0 both.1))

  pub into_none : (p : ℕ → Bool → Bool) → ((i : ℕ) (b : Bool) → i < t.links → target t i b ≡ x → p i b ≡ true → ⊥) → directions t (into p) ≡ 0
  into_none p h =
      both_none t.links (λ i b. bit (into p i b)) (λ i b l. bit_false (fails (into p i b) (λ e. let both = taken_apart p i b e in h i b l both.0 both.1)))

  pub into_one : (p : ℕ → Bool → Bool) (i : ℕ) (b : Bool) → i < t.links → target t i b ≡ x → p i b ≡ true → 1 ≤ directions t (into p)
  into_one p i b l e h = directions_one t (into p) i b l (goes_into p i b e h)

  pub into_two : (p : ℕ → Bool → Bool) (i : ℕ) (b : Bool) (j : ℕ) (c : Bool) → i < t.links → j < t.links → target t i b ≡ x → target t j c ≡ x → p i b ≡ true → p j c ≡ true → (Same i b j c → ⊥) → 2 ≤ directions t (into p)
  into_two p i b j c l m e f h k = directions_two t (into p) i b j c l m (goes_into p i b e h) (goes_into p j c f k)

-- A changed mark or message, read at a place, and what a possible step says of its node or link.
use Prim.Native.Nat.{ℕ, ◌<◌}
use mathlib.Core.Bool.{Bool, true, false, cond, ◌&&◌, beq}
use mathlib.Core.Path.{◌≡◌, refl, ap}
use lib.Dec.{eqb, ltb}
use borrow.Author.Tests.{eqb-true, eqb-false, ne_eqb, ltb-true}
use Rattle.counting.proofs.Booleans.{and_left}
use Rattle.paper.specs.Table.{Table}
use Rattle.paper.specs.State.{State}
use Rattle.paper.specs.Steps.{Step, children_known, add_child, acknowledge, resolve, become_root, possible, at, at_direction}

-- what holds of the new value at x and of the old ones elsewhere holds of the changed function
pub at_elim {ℓ} : {A : Type ℓ} (P : A → Type 0) (f : ℕ → A) (x : ℕ) (a : A) (j : ℕ) → (j ≡ x → P a) → ((j ≡ x → ⊥) → P (f j)) → P (at f x a j)
at_elim {A = A} P f x a j new old = go (eqb j x) refl
  where
    go : (b : Bool) → eqb j x ≡ b → P (cond b a (f j))
    go true e = new (eqb-true j x e)
    go false e = old (eqb-false j x e)

pub at_away {ℓ} : {A : Type ℓ} (f : ℕ → A) (x : ℕ) (a : A) (j : ℕ) → (j ≡ x → ⊥) → at f x a j ≡ f j
at_away f x a j away = ap (λ b. cond b a (f j)) (ne_eqb j x away)

pub at_direction_elim {ℓ} : {A : Type ℓ} (P : A → Type 0) (f : ℕ → Bool → A) (i : ℕ) (b : Bool) (a : A) (j : ℕ) (c : Bool) → P a → P (f j c) → P (at_direction f i b a j c)
at_direction_elim {A = A} P f i b a j c new old = go (eqb j i && beq c b)
  where
    go : (d : Bool) → P (cond d a (f j c))
    go true = new
    go false = old

pub at_direction_away {ℓ} : {A : Type ℓ} (f : ℕ → Bool → A) (i : ℕ) (b : Bool) (a : A) (j : ℕ) (c : Bool) → (j ≡ i → ⊥) → at_direction f i b a j c ≡ f j c
at_direction_away f i b a j c away = ap (λ d. cond (d && beq c b) a (f j c)) (ne_eqb j i away)

-- the step's node or link is in the table
abbrev pub InTable : Table → Step → Type 0
InTable t (children_known x) = x < t.nodes
InTable t (add_child i b) = i < t.links
InTable t (acknowledge i b) = i < t.links
InTable t (resolve i b) = i < t.links
InTable t (become_root x) = x < t.nodes

pub possible_in_table : (t : Table) (s : State) (x : Step) → possible t s x ≡ true → InTable t x
unfolding possible
possible_in_table t s (children_known x) e = ltb-true _ _ (and_left (ltb x t.nodes) _ e)
possible_in_table t s (add_child i b) e = ltb-true _ _ (and_left (ltb i t.links) _ e)
possible_in_table t s (acknowledge i b) e = ltb-true _ _ (and_left (ltb i t.links) _ e)
possible_in_table t s (resolve i b) e = ltb-true _ _ (and_left (ltb i t.links) _ e)
possible_in_table t s (become_root x) e = ltb-true _ _ (and_left (ltb x t.nodes) _ e)

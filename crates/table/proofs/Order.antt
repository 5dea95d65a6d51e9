-- The order of the checks: the first refusal of a list, and the first link that is refused.
use Prim.Native.Nat.{ℕ, zero, suc, ◌+◌, ◌≤◌, ◌<◌}
use mathlib.Core.Bool.{cond}
use mathlib.Core.Path.{◌≡◌, refl, ap, subst, ◌∙◌}
use mathlib.Core.List.{List, [], ◌∷◌}
use mathlib.Core.Logic.{◌⊎◌, inl, inr}
use native.Mathlib.Omega.{arith}
use native.Mathlib.Decide.{ℕ_discrete}
use borrow.Author.Tests.{eq-eqb, ne_eqb}
use Rattle.paper.specs.Table.{Table}
use Rattle.paper.specs.Refusals.{Refusal, accepted, first, link_refusal, links_refusal}

pub first_skip : (r : Refusal) (rs : List Refusal) → r.number ≡ 0 → first (r ∷ rs) ≡ first rs
first_skip r rs h = ap (λ b. cond b (first rs) r) (eq-eqb r.number 0 h)

pub first_stop : (r : Refusal) (rs : List Refusal) → (r.number ≡ 0 → ⊥) → first (r ∷ rs) ≡ r
first_stop r rs h = ap (λ b. cond b (first rs) r) (ne_eqb r.number 0 h)

-- the first of a list is the first of itself alone
first_alone : (rs : List Refusal) → first (first rs ∷ []) ≡ first rs
first_alone [] = refl
first_alone (r ∷ rs) = go (ℕ_discrete r.number 0) (first_alone rs)
  where
    go : Dec (r.number ≡ 0) → first (first rs ∷ []) ≡ first rs → first (first (r ∷ rs) ∷ []) ≡ first (r ∷ rs)
    go (yes e) below = rw (first_skip r rs e) below
    go (no e) below = rw (first_stop r rs e) (first_stop r [] e)

module _ (t : Table) where
  links_alone : (i k : ℕ) → first (links_refusal t i k ∷ []) ≡ links_refusal t i k
  unfolding links_refusal
  links_alone i zero = refl
  links_alone i (suc k) = first_alone (link_refusal t i ∷ links_refusal t (suc i) k ∷ [])

  links_good : (i k : ℕ) → (link_refusal t i).number ≡ 0 → links_refusal t i (suc k) ≡ links_refusal t (suc i) k
  unfolding links_refusal
  links_good i k h = first_skip (link_refusal t i) (links_refusal t (suc i) k ∷ []) h ∙ links_alone (suc i) k

  links_bad : (i k : ℕ) → ((link_refusal t i).number ≡ 0 → ⊥) → links_refusal t i (suc k) ≡ link_refusal t i
  unfolding links_refusal
  links_bad i k h = first_stop (link_refusal t i) (links_refusal t (suc i) k ∷ []) h

  links_none : (i : ℕ) → links_refusal t i 0 ≡ accepted
  unfolding links_refusal
  links_none i = refl

  -- the links from i up to j pass
  abbrev pub Clear : ℕ → ℕ → Type 0
  Clear i j = (l : ℕ) → i ≤ l → l < j → (link_refusal t l).number ≡ 0

  pub clear_more : (i j : ℕ) → Clear i j → (link_refusal t j).number ≡ 0 → Clear i (j + 1)
  clear_more i j h e l p q = go (ℕ_discrete j l)
    where
      go : Dec (j ≡ l) → (link_refusal t l).number ≡ 0
      go (yes d) = subst (λ (x : ℕ). (link_refusal t x).number ≡ 0) d e
      go (no d) = h l p (omega arith)

  pub links_clear : (i k : ℕ) → Clear i (i + k) → links_refusal t i k ≡ accepted
  links_clear i zero h = links_none i
  links_clear i (suc k) h =
      let below = links_clear (suc i) k (λ l p q. h l (omega arith) (omega arith)) in
      links_good i k (h i (omega arith) (omega arith)) ∙ below

  pub links_at : (i k j : ℕ) → i ≤ j → j < i + k → Clear i j → ((link_refusal t j).number ≡ 0 → ⊥) → links_refusal t i k ≡ link_refusal t j
  links_at i zero j p q h bad = absurd (omega arith)
  links_at i (suc k) j p q h bad = go (ℕ_discrete i j) (λ d. links_at (suc i) k j d (omega arith) (λ l r s. h l (omega arith) s) bad)
    where
      go : Dec (i ≡ j) → (suc i ≤ j → links_refusal t (suc i) k ≡ link_refusal t j) → links_refusal t i (suc k) ≡ link_refusal t j
      go (yes e) below = subst (λ (l : ℕ). links_refusal t i (suc k) ≡ link_refusal t l) e (links_bad i k (λ z. bad (subst (λ (l : ℕ). (link_refusal t l).number ≡ 0) e z)))
      go (no e) below = links_good i k (h i (omega arith) (omega arith)) ∙ below (omega arith)

  -- the first of the k links that is refused
  pub record Found (k : ℕ) : Type 0 where
    pub place : ℕ
    pub below : place < k
    pub clear : Clear 0 place
    pub refused : (link_refusal t place).number ≡ 0 → ⊥

  pub links_search : (k : ℕ) → Clear 0 k ⊎ Found k
  links_search zero = inl (λ l p q. absurd (omega arith))
  links_search (suc k) = go (links_search k) (ℕ_discrete (link_refusal t k).number 0)
    where
      go : Clear 0 k ⊎ Found k → Dec ((link_refusal t k).number ≡ 0) → Clear 0 (suc k) ⊎ Found (suc k)
      go (inl clear) (yes e) = inl (λ l p q. clear_more 0 k clear e l p (omega arith))
      go (inl clear) (no e) = inr (record { place = k; below = omega arith; clear = clear; refused = e })
      go (inr f) e = inr (record { place = f.place; below = omega (arith, f.below); clear = f.clear; refused = f.refused })

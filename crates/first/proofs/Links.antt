-- The first step of a kind on a direction, from the direction with the least pair of nodes, direction by direction.
use Rattle.std.proofs.Common.{ℕ, zero, suc, [], ◌∷◌, get_or, ◌+◌, ◌*◌, ◌<◌, ◌≤◌, Bool, true, false, Option, None, Some, MatchOption, IfSome, ◌≡◌, refl, sym, ◌∙◌, subst₂, arith}
use Rattle.std.proofs.lemmas.Bool.{false_from_ne_true}
use mathlib.Core.Path.{subst⁻¹}
use native.Mathlib.Decide.{ℕ_discrete}
use Rattle.counting.proofs.Bits.{bit_most}
use Rattle.counting.proofs.Booleans.{clash}
use Rattle.paper.specs.Table.{Table}
use Rattle.paper.specs.State.{State}
use Rattle.paper.specs.Steps.{possible}
use Rattle.paper.proofs.Changes.{possible_in_table}
use Rattle.upload.specs.Kinds.{link_number}
use Rattle.upload.specs.declared.Direction.{Direction}
use Rattle.upload.specs.declared.step.LinkKind.{LinkKind}
use Rattle.upload.specs.declared.step.Step.{Step}
use Rattle.upload.specs.declared.step.Step.TheVariants.{Link}
use Rattle.first.specs.Least.{rank, Least}
use Rattle.first.specs.Places.{number, pair, may_on, Near, Nearest}
use Rattle.first.proofs.OfKind.{on, on_kind, on_rank, on_inside, on_all}

-- a number names one direction
number_once : (i j : ℕ) (b c : Bool) → number i b ≡ number j c → (i ≡ j) × (b ≡ c)
number_once i j true true e = (omega arith, refl)
number_once i j true false e = absurd (omega arith)
number_once i j false true e = absurd (omega arith)
number_once i j false false e = (omega arith, refl)

-- item k of false and true
abbrev back_at : ℕ → Bool
back_at k = get_or (false ∷ true ∷ []) k false

number_at : (i k : ℕ) → k < 2 → number i (back_at k) ≡ 2 * i + k
number_at i zero h = omega arith
number_at i (suc zero) h = omega arith
number_at i (suc (suc k)) h = absurd (omega arith)

-- one direction more: what holds of it and of the directions before it
below_more : (P : ℕ → Bool → Type 0) (i k : ℕ) → k < 2 → P i (back_at k) → ((j : ℕ) (c : Bool) → number j c < 2 * i + k → P j c) → (j : ℕ) (c : Bool) → number j c < 2 * i + (k + 1) → P j c
below_more P i k h here below j c inside = go (ℕ_discrete (number j c) (2 * i + k))
  where
    go : Dec (number j c ≡ 2 * i + k) → P j c
    go (yes e) = let same = number_once i j (back_at k) c (number_at i k h ∙ sym e) in subst₂ P same.0 same.1 here
    go (no e) = below j c (omega arith)

module _ (t : Table) (s : State) (kind : LinkKind) where
  module _ (i k : ℕ) (h : k < 2) where
    -- the same direction and pair, where those of one direction more are no nearer
    near_more : (p : ℕ × Direction) → (may_on t s kind i (back_at k) ≡ true → p.0 ≤ pair t i (back_at k)) → Near t s kind (2 * i + k) p → Near t s kind (2 * i + (k + 1)) p
    near_more p here before =
        record { is = before.is; may = before.may; least = below_more (λ j c. may_on t s kind j c ≡ true → p.0 ≤ pair t j c) i k h here before.least }

    -- the step isn't possible on it
    pub nearest_pass : (r : Option (ℕ × Direction)) → may_on t s kind i (back_at k) ≡ false → Nearest t s kind (2 * i + k) r → Nearest t s kind (2 * i + (k + 1)) r
    nearest_pass None not before = below_more (λ j c. may_on t s kind j c ≡ false) i k h not before
    nearest_pass (Some p) not before = near_more p (λ may. clash may not) before

    -- its pair isn't less
    pub nearest_keep : (r : Option (ℕ × Direction)) → MatchOption r ⊥ (λ p. p.0 ≤ pair t i (back_at k)) → Nearest t s kind (2 * i + k) r → Nearest t s kind (2 * i + (k + 1)) r
    nearest_keep None few before = absurd few
    nearest_keep (Some p) few before = near_more p (λ may. few) before

    -- the step is possible on it, and its pair is less
    pub nearest_take : (r : Option (ℕ × Direction)) (here : ℕ) →
        here ≡ pair t i (back_at k) →
        may_on t s kind i (back_at k) ≡ true →
        IfSome r (λ p. here < p.0) →
        Nearest t s kind (2 * i + k) r →
        Nearest t s kind (2 * i + (k + 1)) (Some (here, record { link = i; back = back_at k }))
    nearest_take r here same may less before =
        record { is = same; may = may; least = below_more (λ j c. may_on t s kind j c ≡ true → here ≤ pair t j c) i k h (λ again. omega arith) (others r less before) }
      where
        others : (r : Option (ℕ × Direction)) → IfSome r (λ p. here < p.0) → Nearest t s kind (2 * i + k) r → (j : ℕ) (c : Bool) → number j c < 2 * i + k → may_on t s kind j c ≡ true → here ≤ pair t j c
        others None less before j c g m = clash m (before j c g)
        others (Some p) less before j c g m = omega (arith, before.least j c g m)

  inside : (i : ℕ) (b : Bool) → may_on t s kind i b ≡ true → number i b < 2 * t.links
  inside i b may = omega (arith, on_inside t kind i b (possible_in_table t s (on kind i b) may), bit_most b)

  pub least_on_links : (o : Option (ℕ × Direction)) (r : Option Step) →
      Nearest t s kind (2 * t.links) o →
      MatchOption o (r ≡ None) (λ p. r ≡ Some (Link kind p.1)) →
      Least t s (link_number kind) (link_number kind) r
  least_on_links None r h e =
      subst⁻¹ (Least t s (link_number kind) (link_number kind)) e
      (record { none = λ y from to. false_from_ne_true (possible t s y) (on_all (λ z. possible t s z ≡ true → ⊥) kind (λ i b m. clash m (h i b (inside i b m))) y (omega arith)) })
  least_on_links (Some p) r h e =
      subst⁻¹ (Least t s (link_number kind) (link_number kind)) e
      (record {
        may = h.may;
        from = omega (arith, on_kind kind p.1.link p.1.back);
        to = omega (arith, on_kind kind p.1.link p.1.back);
        least = λ y from to. on_all (λ z. possible t s z ≡ true → rank t (on kind p.1.link p.1.back) ≤ rank t z) kind least y (omega arith);
      })
    where
      least : (i : ℕ) (b : Bool) → may_on t s kind i b ≡ true → rank t (on kind p.1.link p.1.back) ≤ rank t (on kind i b)
      least i b m = omega (arith, h.is, h.least i b (inside i b m) m, on_rank t kind p.1.link p.1.back, on_rank t kind i b)

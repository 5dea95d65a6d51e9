-- Reading a changed mark or message: at the place that was changed, and at any other; and when a test fails, passes or equals another.
use Prim.Native.Nat.{ℕ}
use mathlib.Core.Bool.{Bool, true, false, not, cond, ◌&&◌, beq, Bool-discrete, and-eq-true_iff}
use mathlib.Core.Path.{◌≡◌, refl, sym, ap, subst}
use mathlib.Core.Logic.Dec
use native.Mathlib.Decide.{ℕ_discrete}
use lib.Dec.{eqb}
use borrow.Author.Tests.{eq-eqb, eqb-true}
use Rattle.paper.specs.Table.{Table, source, target}
use Rattle.paper.specs.Steps.{at, at_direction}
use mathlib.Core.Bool.{not-not}
use Rattle.paper.proofs.Changes.{at_away}
use Rattle.counting.proofs.Booleans.{beq_same}

-- a test that cannot pass fails, and one that cannot fail passes
pub fails : (b : Bool) → (b ≡ true → ⊥) → b ≡ false
fails true h = absurd (h refl)
fails false h = refl

pub passes : (b : Bool) → (b ≡ false → ⊥) → b ≡ true
passes true h = refl
passes false h = absurd (h refl)

-- two tests that imply each other
pub same_test : (p q : Bool) → (p ≡ true → q ≡ true) → (q ≡ true → p ≡ true) → p ≡ q
same_test true q f g = sym (f refl)
same_test false true f g = g refl
same_test false false f g = refl

-- the reverse of a direction goes to where that comes from
pub target_back : (t : Table) (i : ℕ) (b : Bool) → target t i (not b) ≡ source t i b
target_back t i b = ap (t.end i) (not-not b)

-- from a decision, in either case
pub either : {A B : Type 0} → Dec A → (A → B) → ((A → ⊥) → B) → B
either (yes a) f g = f a
either (no n) f g = g n

module _ {A : Type 0} (f : ℕ → A) (k : ℕ) (a : A) where
  pub at_place : {j : ℕ} → j ≡ k → at f k a j ≡ a
  at_place {j} e = ap (λ (r : Bool). cond r a (f j)) (eq-eqb j k e)

  pub at_other : {j : ℕ} → (j ≡ k → ⊥) → at f k a j ≡ f j
  at_other {j} n = at_away f k a j n

-- the direction (j, c) is the direction (i, b)
abbrev pub Same : ℕ → Bool → ℕ → Bool → Type 0
Same i b j c = (j ≡ i) × (c ≡ b)

pub same : (i : ℕ) (b : Bool) (j : ℕ) (c : Bool) → Dec (Same i b j c)
same i b j c = Dec.and (ℕ_discrete j i) (Bool-discrete c b)

beq_true : (c b : Bool) → beq c b ≡ true → c ≡ b
beq_true true true e = refl
beq_true true false e = sym e
beq_true false true e = e
beq_true false false e = refl

module _ {A : Type 0} (f : ℕ → Bool → A) (i : ℕ) (b : Bool) (a : A) where
  pub on_direction : {j : ℕ} {c : Bool} → Same i b j c → at_direction f i b a j c ≡ a
  on_direction {j} {c} e =
      ap
      (λ (r : Bool). cond r a (f j c))
      ((and-eq-true_iff (eqb j i) (beq c b)).1 (eq-eqb j i e.0, rw e.1 (beq_same b)))

  pub off_direction : {j : ℕ} {c : Bool} → (Same i b j c → ⊥) → at_direction f i b a j c ≡ f j c
  off_direction {j} {c} n =
      ap
      (λ (r : Bool). cond r a (f j c))
      (fails
      (eqb j i && beq c b)
      (λ h.
      let both = (and-eq-true_iff (eqb j i) (beq c b)).0 h in
      n (eqb-true j i both.0, beq_true c b both.1)))

  pub direction_elim : (P : A → Type 0) (j : ℕ) (c : Bool) → (Same i b j c → P a) → ((Same i b j c → ⊥) → P (f j c)) → P (at_direction f i b a j c)
  direction_elim P j c on off =
      either (same i b j c)
      (λ e. subst P (sym (on_direction e)) (on e))
      (λ n. subst P (sym (off_direction n)) (off n))

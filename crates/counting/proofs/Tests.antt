-- Laws of the tests over 0, 1, .., n - 1: all pass, some passes, the least that passes.
use Prim.Native.Nat.{ℕ, zero, suc, ◌+◌, ◌<◌}
use mathlib.Core.Bool.{Bool, true, false, cond, ◌||◌, false≢true}
use mathlib.Core.Path.{◌≡◌, refl, sym, ap, ◌∙◌}
use mathlib.Core.Logic.{◌⊎◌, inl, inr, ⊎_elim}
use native.Mathlib.Numerals.{add-one}
use native.Mathlib.Omega.{arith}
use native.Mathlib.Decide.{ℕ_discrete}
use Rattle.counting.specs.Count.{all, some, least}
use Rattle.std.proofs.lemmas.Bool.{cases_Bool, and_from, or_left, or_right, or_cases, or_parts}
use Rattle.counting.proofs.Booleans.{and_left, and_right}

pub all_true : (n : ℕ) (p : ℕ → Bool) → all n p ≡ true → (i : ℕ) → i < n → p i ≡ true
unfolding all
all_true zero p e i h = absurd (omega arith)
all_true (suc n) p e i h = go (ℕ_discrete i n) (all_true n p (and_left (all n p) (p n) e) i)
  where
    go : Dec (i ≡ n) → (i < n → p i ≡ true) → p i ≡ true
    go (yes q) below = ap p q ∙ and_right (all n p) (p n) e
    go (no q) below = below (omega arith)

pub all_holds : (n : ℕ) (p : ℕ → Bool) → ((i : ℕ) → i < n → p i ≡ true) → all n p ≡ true
unfolding all
all_holds zero p f = refl
all_holds (suc n) p f = and_from _ _ (all_holds n p (λ i h. f i (omega arith))) (f n (omega arith))

pub all_alike : (n : ℕ) (p q : ℕ → Bool) → ((i : ℕ) → i < n → p i ≡ q i) → all n p ≡ all n q
unfolding all
all_alike zero p q h = refl
all_alike (suc n) p q h = let r = all_alike n p q (λ i l. h i (omega arith)) in rw (r, h n (omega arith))

pub some_empty : (p : ℕ → Bool) → some 0 p ≡ false
unfolding some
some_empty p = refl

pub some_more : (n : ℕ) (p : ℕ → Bool) → some (n + 1) p ≡ some n p || p n
unfolding some
some_more n p = rw add-one

pub some_true : (n : ℕ) (p : ℕ → Bool) → some n p ≡ true → (i : ℕ) × (i < n) × (p i ≡ true)
unfolding some
some_true zero p e = absurd (false≢true e)
some_true (suc n) p e = go (or_cases (some n p) (p n) e) (some_true n p)
  where
    go : (some n p ≡ true) ⊎ (p n ≡ true) → (some n p ≡ true → (i : ℕ) × (i < n) × (p i ≡ true)) → (i : ℕ) × (i < suc n) × (p i ≡ true)
    go (inl f) below = let (i, h, g) = below f in (i, omega arith, g)
    go (inr f) below = (n, omega arith, f)

pub some_holds : (n : ℕ) (p : ℕ → Bool) (i : ℕ) → i < n → p i ≡ true → some n p ≡ true
unfolding some
some_holds zero p i h e = absurd (omega arith)
some_holds (suc n) p i h e = go (ℕ_discrete i n) (some_holds n p i)
  where
    go : Dec (i ≡ n) → (i < n → p i ≡ true → some n p ≡ true) → some n p || p n ≡ true
    go (yes q) below = or_right (some n p) _ (ap p (sym q) ∙ e)
    go (no q) below = or_left _ _ (below (omega arith) e)

pub some_none : (n : ℕ) (p : ℕ → Bool) → ((i : ℕ) → i < n → p i ≡ false) → some n p ≡ false
unfolding some
some_none zero p f = refl
some_none (suc n) p f = rw (some_none n p (λ i h. f i (omega arith))) (f n (omega arith))

-- where no number below n passes the test, the least one is the given
pub least_none : (n : ℕ) (p : ℕ → Bool) (d : ℕ) → some n p ≡ false → least n p d ≡ d
unfolding some least
least_none zero p d h = refl
least_none (suc n) p d h =
    let none = or_parts (some n p) (p n) h in
    rw none.1 (least_none n p d none.0)

-- a number below n that passes, and none before it does
pub least_found : (n : ℕ) (p : ℕ → Bool) (d i : ℕ) → i < n → some i p ≡ false → p i ≡ true → least n p d ≡ i
unfolding least
least_found zero p d i h g e = absurd (omega arith)
least_found (suc n) p d i h g e = go (ℕ_discrete i n) (λ below. least_found n p (cond (p n) n d) i below g e)
  where
    go : Dec (i ≡ n) → (i < n → least n p (cond (p n) n d) ≡ i) → least n p (cond (p n) n d) ≡ i
    go (yes q) below = rw (← q, e) (least_none i p i g)
    go (no q) below = below (omega arith)

-- where one number below n alone passes the test, it is the least one
pub least_only : (n : ℕ) (p : ℕ → Bool) (d i : ℕ) → i < n → p i ≡ true → ((j : ℕ) → j < n → p j ≡ true → j ≡ i) → least n p d ≡ i
least_only n p d i h e only =
    least_found n p d i h (some_none i p (λ j g. ⊎_elim (λ f. let same = only j (omega arith) f in absurd (omega arith)) (λ f. f) (cases_Bool (p j)))) e

-- the least number passes the test, or is the given
pub least_passes : (n : ℕ) (p : ℕ → Bool) (d : ℕ) → (p (least n p d) ≡ true) ⊎ (least n p d ≡ d)
unfolding least
least_passes zero p d = inr refl
least_passes (suc n) p d = go (p n) refl (least_passes n p (cond (p n) n d))
  where
    go : (b : Bool) → p n ≡ b → (p (least n p (cond (p n) n d)) ≡ true) ⊎ (least n p (cond (p n) n d) ≡ cond (p n) n d) → (p (least n p (cond (p n) n d)) ≡ true) ⊎ (least n p (cond (p n) n d) ≡ d)
    go b e (inl f) = inl f
    go true e (inr f) = inl (ap p (f ∙ ap (λ b. cond b n d) e) ∙ e)
    go false e (inr f) = inr (f ∙ ap (λ b. cond b n d) e)

-- Where the least number that passes a test lies.
use Prim.Native.Nat.{ℕ, zero, suc, ◌<◌}
use mathlib.Core.Bool.{Bool, true, false, cond}
use mathlib.Core.Path.{◌≡◌, refl, sym, ap, ◌∙◌}
use mathlib.Core.Logic.{◌⊎◌, inl, inr}
use native.Mathlib.Omega.{arith}
use native.Mathlib.Decide.{ℕ_discrete}
use Rattle.counting.specs.Count.{least}

-- it is below n, or the given
pub least_lies : (n : ℕ) (p : ℕ → Bool) (d : ℕ) → (least n p d < n) ⊎ (least n p d ≡ d)
unfolding least
least_lies zero p d = inr refl
least_lies (suc n) p d = go (p n) (least_lies n p)
  where
    go : (b : Bool) → ((d : ℕ) → (least n p d < n) ⊎ (least n p d ≡ d)) → (least n p (cond b n d) < suc n) ⊎ (least n p (cond b n d) ≡ d)
    go true below = pick (below n)
      where
        pick : (least n p n < n) ⊎ (least n p n ≡ n) → (least n p n < suc n) ⊎ (least n p n ≡ d)
        pick (inl h) = inl (omega arith)
        pick (inr h) = inl (omega arith)
    go false below = pick (below d)
      where
        pick : (least n p d < n) ⊎ (least n p d ≡ d) → (least n p d < suc n) ⊎ (least n p d ≡ d)
        pick (inl h) = inl (omega arith)
        pick (inr h) = inr h

-- where some number below n passes, the least one is below n
pub least_below : (n : ℕ) (p : ℕ → Bool) (d i : ℕ) → i < n → p i ≡ true → least n p d < n
unfolding least
least_below zero p d i h e = absurd (omega arith)
least_below (suc n) p d i h e = go (ℕ_discrete i n) (λ l. least_below n p (cond (p n) n d) i l e) (least_lies n p (cond (p n) n d))
  where
    go : Dec (i ≡ n) → (i < n → least n p (cond (p n) n d) < n) → (least n p (cond (p n) n d) < n) ⊎ (least n p (cond (p n) n d) ≡ cond (p n) n d) → least n p (cond (p n) n d) < suc n
    go (yes q) below (inl l) = omega arith
    go (yes q) below (inr f) = let last = f ∙ ap (λ b. cond b n d) (sym (ap p q) ∙ e) in omega arith
    go (no q) below lies = let l = below (omega arith) in omega arith

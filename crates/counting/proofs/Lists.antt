-- Laws of the list of f 0, f 1, .., f (n - 1), and of two lists one behind the other.
use Prim.Native.Nat.{ℕ, zero, suc, ◌+◌, ◌<◌}
use mathlib.Core.Path.{◌≡◌, refl, sym, ap, ◌∙◌}
use mathlib.Core.List.{List, [], ◌∷◌, ◌++◌}
use lib.ListN.{length, get_or, length-append, get_or-append}
use lib.Seq.{get_or-append-add}
use native.Mathlib.Omega.{arith}
use native.Mathlib.Decide.{ℕ_discrete}
use Rattle.counting.specs.Count.{list_of}

-- read in the first list, of length n, and in the second
pub get_or_below {ℓ} : {A : Type ℓ} (l r : List A) (d : A) (n j : ℕ) → length l ≡ n → j < n → get_or (l ++ r) j d ≡ get_or l j d
get_or_below l r d n j e h = get_or-append l r d j (rw e h)

pub get_or_from {ℓ} : {A : Type ℓ} (l r : List A) (d : A) (n j k : ℕ) → length l ≡ n → k ≡ n + j → get_or (l ++ r) k d ≡ get_or r j d
get_or_from l r d n j k e h = rw (h, ← e) (get_or-append-add l r j d)

pub length_list_of {ℓ} : {A : Type ℓ} (n : ℕ) (f : ℕ → A) → length (list_of n f) ≡ n
unfolding list_of
length_list_of zero f = refl
length_list_of (suc n) f = let h = length_list_of n f in length-append (list_of n f) (f n ∷ []) ∙ omega arith

pub get_or_list_of {ℓ} : {A : Type ℓ} (n : ℕ) (f : ℕ → A) (d : A) (i : ℕ) → i < n → get_or (list_of n f) i d ≡ f i
unfolding list_of
get_or_list_of zero f d i h = absurd (omega arith)
get_or_list_of (suc n) f d i h = go (ℕ_discrete i n) (get_or_list_of n f d i)
  where
    go : Dec (i ≡ n) → (i < n → get_or (list_of n f) i d ≡ f i) → get_or (list_of n f ++ (f n ∷ [])) i d ≡ f i
    go (yes q) below = get_or_from (list_of n f) (f n ∷ []) d n 0 i (length_list_of n f) (omega arith) ∙ ap f (sym q)
    go (no q) below = get_or_below (list_of n f) (f n ∷ []) d n i (length_list_of n f) (omega arith) ∙ below (omega arith)

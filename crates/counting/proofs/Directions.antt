-- Laws of sums and counts over the two directions of each of m links.
use Prim.Native.Nat.{ℕ, ◌+◌, ◌≤◌, ◌<◌}
use mathlib.Core.Bool.{Bool, true, false, not, cond, ◌&&◌, ◌||◌, Bool-discrete}
use mathlib.Core.Path.{◌≡◌, refl, ap, sym, ◌∙◌}
use mathlib.Core.Logic.{inl, inr, ⊎_elim}
use native.Mathlib.Omega.{arith}
use native.Mathlib.Decide.{ℕ_discrete}
use lib.Dec.{eqb}
use Rattle.counting.specs.Count.{sum, bit}
use Rattle.std.proofs.lemmas.Bool.{or_cases, or_parts}
use Rattle.counting.proofs.Bits.{bit_true, bit_false, bit_zero}
use Rattle.counting.proofs.Sums.{sum_add, sum_eq, sum_none, sum_swap, sum_term, sum_pair, sum_change, sum_pick, Found, find}

-- f at the directions (i, false) and (i, true) of every link i below m
abbrev pub sum_both : ℕ → (ℕ → Bool → ℕ) → ℕ
sum_both m f = sum m (λ i. f i false + f i true)

-- how many of these directions pass the test
abbrev pub count_both : ℕ → (ℕ → Bool → Bool) → ℕ
count_both m p = sum_both m (λ i b. bit (p i b))

pub both_eq : (m : ℕ) (f g : ℕ → Bool → ℕ) → ((i : ℕ) (b : Bool) → i < m → f i b ≡ g i b) → sum_both m f ≡ sum_both m g
both_eq m f g h =
    sum_eq m (λ i. f i false + f i true) (λ i. g i false + g i true) (λ i l. let p = h i false l in let q = h i true l in omega arith)

pub both_none : (m : ℕ) (f : ℕ → Bool → ℕ) → ((i : ℕ) (b : Bool) → i < m → f i b ≡ 0) → sum_both m f ≡ 0
both_none m f h =
    sum_none m (λ i. f i false + f i true) (λ i l. let p = h i false l in let q = h i true l in omega arith)

-- no direction is its own reverse
pub not_same : (b : Bool) → not b ≡ b → ⊥
not_same true e = let q = ap bit e in omega arith
not_same false e = let q = ap bit e in omega arith

-- a direction and its reverse make the link
with_reverse : (f : ℕ → Bool → ℕ) (i : ℕ) (b : Bool) → f i b + f i (not b) ≡ f i false + f i true
with_reverse f i false = refl
with_reverse f i true = omega arith

-- f and g agree but at the direction (k, c)
both_change : (m : ℕ) (f g : ℕ → Bool → ℕ) (k : ℕ) (c : Bool) → k < m → ((i : ℕ) (b : Bool) → i < m → ((i ≡ k) × (b ≡ c) → ⊥) → f i b ≡ g i b) → sum_both m f + g k c ≡ sum_both m g + f k c
both_change m f g k c l h =
    let r = sum_change m (λ i. f i false + f i true) (λ i. g i false + g i true) k l (λ i r d. let u = h i false r (λ e. d e.0) in let v = h i true r (λ e. d e.0) in omega arith) in
    let o = h k (not c) l (λ e. not_same c e.1) in
    let u = with_reverse f k c in
    let v = with_reverse g k c in omega arith

-- one more direction passes, (k, c)
pub both_gain : (m : ℕ) (p q : ℕ → Bool → Bool) (k : ℕ) (c : Bool) → k < m → p k c ≡ false → q k c ≡ true → ((i : ℕ) (b : Bool) → i < m → ((i ≡ k) × (b ≡ c) → ⊥) → p i b ≡ q i b) → count_both m q ≡ count_both m p + 1
both_gain m p q k c l e f h =
    let z = both_change m (λ i b. bit (p i b)) (λ i b. bit (q i b)) k c l (λ i b r d. ap bit (h i b r d)) in
    let u = bit_false e in
    let v = bit_true f in omega arith

-- a direction's value is at most the sum
both_term : (m : ℕ) (f : ℕ → Bool → ℕ) (k : ℕ) (c : Bool) → k < m → f k c ≤ sum_both m f
both_term m f k c l =
    let t = sum_term m (λ i. f i false + f i true) k l in
    let u = with_reverse f k c in omega arith

-- two different directions of one link make the link
two_ends : (f : Bool → ℕ) (b c : Bool) → (b ≡ c → ⊥) → f b + f c ≡ f false + f true
two_ends f false false d = absurd (d refl)
two_ends f false true d = refl
two_ends f true false d = omega arith
two_ends f true true d = absurd (d refl)

-- the values of two different directions are together at most the sum
both_pair : (m : ℕ) (f : ℕ → Bool → ℕ) (i : ℕ) (b : Bool) (j : ℕ) (c : Bool) → i < m → j < m → ((i ≡ j) × (b ≡ c) → ⊥) → f i b + f j c ≤ sum_both m f
both_pair m f i b j c l r d = go (ℕ_discrete i j)
  where
    go : Dec (i ≡ j) → f i b + f j c ≤ sum_both m f
    go (yes q) =
        let t = sum_term m (λ i. f i false + f i true) i l in
        let u = two_ends (f i) b c (λ e. d (q, e)) in
        let v = ap (λ k. f k c) q in omega arith
    go (no n) =
        let t = sum_pair m (λ i. f i false + f i true) i j l r n in
        let u = with_reverse f i b in
        let v = with_reverse f j c in omega arith

-- a count of nothing
pub both_zero : (m : ℕ) (p : ℕ → Bool → Bool) → count_both m p ≡ 0 → (i : ℕ) (b : Bool) → i < m → p i b ≡ false
both_zero m p z i b l = let t = both_term m (λ i b. bit (p i b)) i b l in bit_zero (p i b) (omega arith)

-- the directions that pass are all one
abbrev pub AllOne : ℕ → (ℕ → Bool → Bool) → Type 0
AllOne m p = (i : ℕ) (b : Bool) (j : ℕ) (c : Bool) → i < m → j < m → p i b ≡ true → p j c ≡ true → (i ≡ j) × (b ≡ c)

-- a count of at most one
pub both_same : (m : ℕ) (p : ℕ → Bool → Bool) → count_both m p ≤ 1 → AllOne m p
both_same m p h i b j c l r e f = go (ℕ_discrete i j) (Bool-discrete b c)
  where
    apart : ((i ≡ j) × (b ≡ c) → ⊥) → ⊥
    apart d =
        let t = both_pair m (λ i b. bit (p i b)) i b j c l r d in
        let u = bit_true e in
        let v = bit_true f in omega arith

    go : Dec (i ≡ j) → Dec (b ≡ c) → (i ≡ j) × (b ≡ c)
    go (yes q) (yes s) = (q, s)
    go (yes q) (no s) = absurd (apart (λ w. s w.1))
    go (no q) s = absurd (apart (λ w. q w.0))

-- where all that pass are one, the count is at most one
pub both_unique : (m : ℕ) (p : ℕ → Bool → Bool) → AllOne m p → count_both m p ≤ 1
both_unique m p one = go (find m (λ i. p i false || p i true))
  where
    alone : (k : ℕ) (c : Bool) → k < m → p k c ≡ true → count_both m p ≤ 1
    alone k c l e =
        let g = both_gain m (λ i b. false) p k c l refl e (λ i b r d. other i b r d (p i b) refl) in
        let z = both_none m (λ i b. 0) (λ i b r. refl) in omega arith
      where
        other : (i : ℕ) (b : Bool) → i < m → ((i ≡ k) × (b ≡ c) → ⊥) → (v : Bool) → p i b ≡ v → false ≡ v
        other i b r d false f = refl
        other i b r d true f = absurd (d (one i b k c r l f e))

    go : Found m (λ i. p i false || p i true) → count_both m p ≤ 1
    go (inl (k, l, e)) = ⊎_elim (alone k false l) (alone k true l) (or_cases (p k false) (p k true) e)
    go (inr none) =
        let z = sum_none m (λ i. bit (p i false) + bit (p i true)) (λ i l. let n = or_parts (p i false) (p i true) (none i l) in let u = bit_false n.0 in let v = bit_false n.1 in omega arith) in omega arith

-- The handshake: to sum over the directions is to sum, for every node below n, over the directions into it.
pub handshake : (n m : ℕ) (into : ℕ → Bool → ℕ) (f : ℕ → ℕ → Bool → ℕ) → ((i : ℕ) (b : Bool) → i < m → into i b < n) → sum_both m (λ i b. f (into i b) i b) ≡ sum n (λ x. sum_both m (λ i b. cond (eqb (into i b) x) (f x i b) 0))
handshake n m into f below =
    both_eq m (λ i b. f (into i b) i b) (λ i b. sum n (λ x. g x i b)) (λ i b l. sym (sum_pick n (λ x. f x i b) (into i b) (below i b l)))
    ∙ (sum_eq m (λ i. sum n (λ x. g x i false) + sum n (λ x. g x i true)) (λ i. sum n (λ x. g x i false + g x i true)) (λ i l. sym (sum_add n (λ x. g x i false) (λ x. g x i true)))
    ∙ sum_swap m n (λ i x. g x i false + g x i true))
  where
    g : ℕ → ℕ → Bool → ℕ
    g x i b = cond (eqb (into i b) x) (f x i b) 0

-- The directions that pass q into the nodes that pass p, counted by links and by nodes.
pub handshake_count : (n m : ℕ) (into : ℕ → Bool → ℕ) (p : ℕ → Bool) (q : ℕ → Bool → Bool) → ((i : ℕ) (b : Bool) → i < m → into i b < n) → count_both m (λ i b. p (into i b) && q i b) ≡ sum n (λ x. cond (p x) (count_both m (λ i b. eqb (into i b) x && q i b)) 0)
handshake_count n m into p q below =
    handshake n m into (λ x i b. bit (p x && q i b)) below
    ∙ sum_eq n (λ x. sum_both m (λ i b. cond (eqb (into i b) x) (bit (p x && q i b)) 0)) (λ x. cond (p x) (count_both m (λ i b. eqb (into i b) x && q i b)) 0) (λ x l. node x (p x))
  where
    inner : (c d : Bool) → cond c (bit d) 0 ≡ bit (c && d)
    inner true d = refl
    inner false d = refl

    outer : (c : Bool) → ◌≡◌ {A = ℕ} (cond c 0 0) 0
    outer true = refl
    outer false = refl

    node : (x : ℕ) (w : Bool) → sum_both m (λ i b. cond (eqb (into i b) x) (bit (w && q i b)) 0) ≡ cond w (count_both m (λ i b. eqb (into i b) x && q i b)) 0
    node x true = both_eq m (λ i b. cond (eqb (into i b) x) (bit (q i b)) 0) (λ i b. bit (eqb (into i b) x && q i b)) (λ i b l. inner (eqb (into i b) x) (q i b))
    node x false = both_none m (λ i b. cond (eqb (into i b) x) 0 0) (λ i b l. outer (eqb (into i b) x))

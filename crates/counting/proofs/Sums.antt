-- Laws of sums and counts over 0, 1, .., n - 1.
use Prim.Native.Nat.{ℕ, zero, suc, ◌+◌, ◌*◌, ◌≤◌, ◌<◌}
use mathlib.Core.Bool.{Bool, true, false, not, cond}
use mathlib.Core.Path.{◌≡◌, refl, ap, sym, ◌∙◌}
use mathlib.Core.Logic.{◌⊎◌, inl, inr}
use native.Mathlib.Numerals.{add-one}
use native.Mathlib.Omega.{arith}
use native.Mathlib.Decide.{ℕ_discrete}
use lib.Dec.{eqb}
use borrow.Author.Tests.{eq-eqb, ne_eqb}
use Rattle.counting.specs.Count.{sum, count, bit}
use Rattle.counting.proofs.Bits.{bit_true, bit_false, bit_zero, bit_most, bit_not, bit_mono}

pub sum_empty : (f : ℕ → ℕ) → sum 0 f ≡ 0
unfolding sum
sum_empty f = refl

pub sum_more : (n : ℕ) (f : ℕ → ℕ) → sum (n + 1) f ≡ sum n f + f n
unfolding sum
sum_more n f = rw add-one

pub sum_add : (n : ℕ) (f g : ℕ → ℕ) → sum n (λ i. f i + g i) ≡ sum n f + sum n g
unfolding sum
sum_add zero f g = refl
sum_add (suc n) f g = let h = sum_add n f g in omega arith

pub sum_eq : (n : ℕ) (f g : ℕ → ℕ) → ((i : ℕ) → i < n → f i ≡ g i) → sum n f ≡ sum n g
unfolding sum
sum_eq zero f g h = refl
sum_eq (suc n) f g h =
    let r = sum_eq n f g (λ i l. h i (omega arith)) in
    let e = h n (omega arith) in omega arith

pub sum_le : (n : ℕ) (f g : ℕ → ℕ) → ((i : ℕ) → i < n → f i ≤ g i) → sum n f ≤ sum n g
unfolding sum
sum_le zero f g h = omega arith
sum_le (suc n) f g h =
    let r = sum_le n f g (λ i l. h i (omega arith)) in
    let e = h n (omega arith) in omega arith

pub sum_none : (n : ℕ) (f : ℕ → ℕ) → ((i : ℕ) → i < n → f i ≡ 0) → sum n f ≡ 0
unfolding sum
sum_none zero f h = refl
sum_none (suc n) f h =
    let r = sum_none n f (λ i l. h i (omega arith)) in
    let e = h n (omega arith) in omega arith

pub sum_ones : (n : ℕ) → sum n (λ i. 1) ≡ n
unfolding sum
sum_ones zero = refl
sum_ones (suc n) = let r = sum_ones n in omega arith

pub sum_twice : (n : ℕ) (f : ℕ → ℕ) → sum n (λ i. 2 * f i) ≡ 2 * sum n f
unfolding sum
sum_twice zero f = refl
sum_twice (suc n) f = let r = sum_twice n f in omega arith

-- two sums in either order
pub sum_swap : (n m : ℕ) (f : ℕ → ℕ → ℕ) → sum n (λ i. sum m (f i)) ≡ sum m (λ j. sum n (λ i. f i j))
unfolding sum
sum_swap zero m f = sym (sum_none m (λ j. 0) (λ j l. refl))
sum_swap (suc n) m f = ap (λ z. z + sum m (f n)) (sum_swap n m f) ∙ sym (sum_add m (λ j. sum n (λ i. f i j)) (f n))

-- a term is at most the sum
pub sum_term : (n : ℕ) (f : ℕ → ℕ) (k : ℕ) → k < n → f k ≤ sum n f
unfolding sum
sum_term zero f k l = absurd (omega arith)
sum_term (suc n) f k l = go (ℕ_discrete k n) (sum_term n f k)
  where
    go : Dec (k ≡ n) → (k < n → f k ≤ sum n f) → f k ≤ sum n f + f n
    go (yes e) below = let q = ap f e in omega arith
    go (no d) below = let r = below (omega arith) in omega arith

-- the terms in front are no more than all
pub sum_front : (k n : ℕ) (f : ℕ → ℕ) → k ≤ n → sum k f ≤ sum n f
unfolding sum
sum_front k zero f h =
    let none : k ≡ 0 = omega arith in
    rw none (omega arith)
sum_front k (suc n) f h = go (ℕ_discrete k (suc n)) (sum_front k n f)
  where
    go : Dec (k ≡ suc n) → (k ≤ n → sum k f ≤ sum n f) → sum k f ≤ sum n f + f n
    go (yes e) below = rw e (omega arith)
    go (no e) below = let front = below (omega arith) in omega arith

-- f and g agree but at k: the sums differ as f k and g k do
pub sum_change : (n : ℕ) (f g : ℕ → ℕ) (k : ℕ) → k < n → ((i : ℕ) → i < n → (i ≡ k → ⊥) → f i ≡ g i) → sum n f + g k ≡ sum n g + f k
unfolding sum
sum_change zero f g k l h = absurd (omega arith)
sum_change (suc n) f g k l h = go (ℕ_discrete k n) (λ m. sum_change n f g k m (λ i r. h i (omega arith)))
  where
    go : Dec (k ≡ n) → (k < n → sum n f + g k ≡ sum n g + f k) → sum n f + f n + g k ≡ sum n g + g n + f k
    go (yes e) below =
        let r = sum_eq n f g (λ i m. h i (omega arith) (λ q. omega arith)) in
        let p = ap f e in
        let q = ap g e in omega arith
    go (no d) below =
        let r = below (omega arith) in
        let q = h n (omega arith) (λ z. d (sym z)) in omega arith

-- only the term at k counts
pub sum_pick : (n : ℕ) (f : ℕ → ℕ) (k : ℕ) → k < n → sum n (λ x. cond (eqb k x) (f x) 0) ≡ f k
sum_pick n f k l =
    let g : ℕ → ℕ = λ x. cond (eqb k x) (f x) 0 in
    let c = sum_change n g (λ x. 0) k l (λ i m d. ap (λ p. cond p (f i) 0) (ne_eqb k i (λ q. d (sym q)))) in
    let z = sum_none n (λ x. 0) (λ i m. refl) in
    let e : g k ≡ f k = ap (λ p. cond p (f k) 0) (eq-eqb k k refl) in omega arith

-- two terms at different places are together at most the sum
pub sum_pair : (n : ℕ) (f : ℕ → ℕ) (j k : ℕ) → j < n → k < n → (j ≡ k → ⊥) → f j + f k ≤ sum n f
sum_pair n f j k l m d =
    let g : ℕ → ℕ = λ x. cond (eqb x k) 0 (f x) in
    let c = sum_change n f g k m (λ i r q. sym (ap (λ p. cond p 0 (f i)) (ne_eqb i k q))) in
    let z : g k ≡ 0 = ap (λ p. cond p 0 (f k)) (eq-eqb k k refl) in
    let e : g j ≡ f j = ap (λ p. cond p 0 (f j)) (ne_eqb j k d) in
    let t = sum_term n g j l in omega arith

-- a number below n passes the test, or none does
abbrev pub Found : ℕ → (ℕ → Bool) → Type 0
Found n p = ((k : ℕ) × (k < n) × (p k ≡ true)) ⊎ ((k : ℕ) → k < n → p k ≡ false)

pub find : (n : ℕ) (p : ℕ → Bool) → Found n p
find zero p = inr (λ k l. absurd (omega arith))
find (suc n) p = go (p n) refl (find n p)
  where
    go : (b : Bool) → p n ≡ b → Found n p → Found (suc n) p
    go true e below = inl (n, omega arith, e)
    go false e (inl w) = let l = w.1 in inl (w.0, omega arith, w.2)
    go false e (inr none) = inr (λ k l. last k l (ℕ_discrete k n))
      where
        last : (k : ℕ) → k < suc n → Dec (k ≡ n) → p k ≡ false
        last k l (yes q) = ap p q ∙ e
        last k l (no d) = none k (omega arith)

pub count_none : (n : ℕ) (p : ℕ → Bool) → ((k : ℕ) → k < n → p k ≡ false) → count n p ≡ 0
count_none n p h = sum_none n (λ i. bit (p i)) (λ i l. bit_false (h i l))

pub count_all : (n : ℕ) (p : ℕ → Bool) → ((k : ℕ) → k < n → p k ≡ true) → count n p ≡ n
count_all n p h = sum_eq n (λ i. bit (p i)) (λ i. 1) (λ i l. bit_true (h i l)) ∙ sum_ones n

pub count_le : (n : ℕ) (p q : ℕ → Bool) → ((k : ℕ) → k < n → p k ≡ true → q k ≡ true) → count n p ≤ count n q
count_le n p q h = sum_le n (λ i. bit (p i)) (λ i. bit (q i)) (λ i l. bit_mono (p i) (q i) (h i l))

-- those that pass and those that do not
pub count_not : (n : ℕ) (p : ℕ → Bool) → count n (λ i. not (p i)) + count n p ≡ n
count_not n p =
    sym (sum_add n (λ i. bit (not (p i))) (λ i. bit (p i))) ∙ (sum_eq n (λ i. bit (not (p i)) + bit (p i)) (λ i. 1) (λ i l. bit_not (p i)) ∙ sum_ones n)

pub count_below : (n : ℕ) (p : ℕ → Bool) → count n p ≤ n
count_below n p = let e = count_not n p in omega arith

-- a witness makes the count positive
pub count_some : (n : ℕ) (p : ℕ → Bool) (k : ℕ) → k < n → p k ≡ true → 0 < count n p
count_some n p k l e =
    let t = sum_term n (λ i. bit (p i)) k l in
    let b = bit_true e in omega arith

-- a positive count has a witness
pub count_witness : (n : ℕ) (p : ℕ → Bool) → 0 < count n p → (k : ℕ) × (k < n) × (p k ≡ true)
count_witness n p h = go (find n p)
  where
    go : Found n p → (k : ℕ) × (k < n) × (p k ≡ true)
    go (inl w) = w
    go (inr none) = let z = count_none n p none in absurd (omega arith)

-- a count of nothing
pub count_zero : (n : ℕ) (p : ℕ → Bool) → count n p ≡ 0 → (k : ℕ) → k < n → p k ≡ false
count_zero n p z k l = let t = sum_term n (λ i. bit (p i)) k l in bit_zero (p k) (omega arith)

-- a count of at most one: two that pass are the same
pub count_same : (n : ℕ) (p : ℕ → Bool) → count n p ≤ 1 → (j k : ℕ) → j < n → k < n → p j ≡ true → p k ≡ true → j ≡ k
count_same n p h j k l m e f = go (ℕ_discrete j k)
  where
    go : Dec (j ≡ k) → j ≡ k
    go (yes q) = q
    go (no d) =
        let t = sum_pair n (λ i. bit (p i)) j k l m d in
        let u = bit_true e in
        let v = bit_true f in absurd (omega arith)

-- where all that pass are the same, the count is at most one
pub count_unique : (n : ℕ) (p : ℕ → Bool) (k : ℕ) → ((j : ℕ) → j < n → p j ≡ true → j ≡ k) → count n p ≤ 1
count_unique n p k h = go (find n p)
  where
    go : Found n p → count n p ≤ 1
    go (inr none) = let z = count_none n p none in omega arith
    go (inl w) =
        let c = sum_change n (λ i. bit (p i)) (λ i. 0) w.0 w.1 (λ i l d. bit_false (other i l d (p i) refl)) in
        let z = sum_none n (λ i. 0) (λ i l. refl) in
        let b = bit_most (p w.0) in omega arith
      where
        other : (i : ℕ) → i < n → (i ≡ w.0 → ⊥) → (b : Bool) → p i ≡ b → b ≡ false
        other i l d false e = refl
        other i l d true e = absurd (d (h i l e ∙ sym (h w.0 w.1 w.2)))

-- one more passes, at k
pub count_gain : (n : ℕ) (p q : ℕ → Bool) (k : ℕ) → k < n → p k ≡ false → q k ≡ true → ((i : ℕ) → i < n → (i ≡ k → ⊥) → p i ≡ q i) → count n q ≡ count n p + 1
count_gain n p q k l e f h =
    let c = sum_change n (λ i. bit (p i)) (λ i. bit (q i)) k l (λ i m d. ap bit (h i m d)) in
    let u = bit_false e in
    let v = bit_true f in omega arith

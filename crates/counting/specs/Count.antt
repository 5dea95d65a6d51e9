-- Sums and counts over 0, 1, .., n - 1.
use Rattle.std.specs.Prelude.{ℕ, zero, suc, ◌+◌, Bool, true, false, cond, ◌&&◌, ◌||◌, List, [], ◌∷◌, ◌++◌}

-- a test as a number
abbrev pub bit : Bool → ℕ
bit true = 1
bit false = 0

-- f 0 + f 1 + .. + f (n - 1)
unfoldable pub sum : ℕ → (ℕ → ℕ) → ℕ
sum zero f = 0
sum (suc n) f = sum n f + f n

-- how many numbers below n pass the test
abbrev pub count : ℕ → (ℕ → Bool) → ℕ
count n p = sum n (λ i. bit (p i))

-- every number below n passes the test
unfoldable pub all : ℕ → (ℕ → Bool) → Bool
all zero p = true
all (suc n) p = all n p && p n

-- some number below n passes the test
unfoldable pub some : ℕ → (ℕ → Bool) → Bool
some zero p = false
some (suc n) p = some n p || p n

-- the least number below n that passes the test, or d where none does
unfoldable pub least : ℕ → (ℕ → Bool) → ℕ → ℕ
least zero p d = d
least (suc n) p d = least n p (cond (p n) n d)

-- f 0, f 1, .., f (n - 1)
unfoldable pub list_of {ℓ} : {A : Type ℓ} → ℕ → (ℕ → A) → List A
list_of zero f = []
list_of (suc n) f = list_of n f ++ (f n ∷ [])

-- f 0, then f 1, .., then f (n - 1), one after another
unfoldable pub joined {ℓ} : {A : Type ℓ} → ℕ → (ℕ → List A) → List A
joined zero f = []
joined (suc n) f = joined n f ++ f n

-- What a chain over 0, 1, .., n - 1 gives, by the words of this crate.
use Rattle.std.proofs.Common.{ℕ, zero, suc, ◌+◌, ◌<◌, Bool, true, false, cond, ◌&&◌, ◌||◌, List, [], ◌∷◌, ◌++◌, length, get_or, map, find, sum_by, Option, None, Some, MatchOption, ◌≡◌, refl, sym, ap, ◌∙◌, subst, arith}
use Rattle.std.specs.List.{list_any, list_all, range_with_len}
use Rattle.std.specs.Option.{option_or}
use Rattle.std.proofs.lemmas.List.Folds.{list_any-append, list_all-append, list_all-map, find-append}
use Rattle.std.proofs.lemmas.List.FromFn.{fill_by_all}
use Rattle.std.proofs.lemmas.List.Sums.{sum_by_push}
use Rattle.counting.specs.Count.{all, some, sum}

-- one number more, behind
range_more : (n a : ℕ) → range_with_len a (suc n) ≡ range_with_len a n ++ (a + n) ∷ []
range_more zero a = let e : a ≡ a + 0 = omega arith in ap (λ x. x ∷ []) e
range_more (suc n) a =
    let e : a + 1 + n ≡ a + suc n = omega arith in
    ap (λ l. a ∷ l) (range_more n (a + 1) ∙ ap (λ x. range_with_len (a + 1) n ++ x ∷ []) e)

-- the numbers below n, and n
pub range_suc : (n : ℕ) → range_with_len 0 (suc n) ≡ range_with_len 0 n ++ n ∷ []
range_suc n =
    let e : 0 + n ≡ n = omega arith in
    range_more n 0 ∙ ap (λ x. range_with_len 0 n ++ x ∷ []) e

or_false : (b : Bool) → (b || false) ≡ b
or_false true = refl
or_false false = refl

and_true : (b : Bool) → (b && true) ≡ b
and_true true = refl
and_true false = refl

module _ (p : ℕ → Bool) where
  pub any_is_some : (n : ℕ) → list_any p (range_with_len 0 n) ≡ some n p
  unfolding some
  any_is_some zero = refl
  any_is_some (suc n) =
      ap (list_any p) (range_suc n)
      ∙ list_any-append p (range_with_len 0 n) (n ∷ [])
      ∙ ap (λ w. list_any p (range_with_len 0 n) || w) (or_false (p n))
      ∙ ap (λ w. w || p n) (any_is_some n)

  pub all_is_all : (n : ℕ) → list_all p (range_with_len 0 n) ≡ all n p
  unfolding all
  all_is_all zero = refl
  all_is_all (suc n) =
      ap (list_all p) (range_suc n)
      ∙ list_all-append p (range_with_len 0 n) (n ∷ [])
      ∙ ap (λ w. list_all p (range_with_len 0 n) && w) (and_true (p n))
      ∙ ap (λ w. w && p n) (all_is_all n)

  -- what `find` gives: a number that passes, and none before it does, or nothing where none passes
  abbrev pub FirstBelow : ℕ → Option ℕ → Type 0
  FirstBelow n o = MatchOption o (some n p ≡ false) (λ i. (i < n) × (p i ≡ true) × (some i p ≡ false))

  first_more : (n : ℕ) (o : Option ℕ) (b : Bool) → p n ≡ b → FirstBelow n o → FirstBelow (suc n) (option_or o (cond b (Some n) None))
  unfolding some
  first_more n (Some i) b e h = (omega (arith, h.0), h.1, h.2)
  first_more n None true e h = (omega arith, e, h)
  first_more n None false e h = ap (λ b. b || p n) h ∙ e

  pub find_is_first : (n : ℕ) → FirstBelow n (find p (range_with_len 0 n))
  unfolding some
  find_is_first zero = refl
  find_is_first (suc n) =
      subst (FirstBelow (suc n))
      (sym (ap (find p) (range_suc n) ∙ find-append p (range_with_len 0 n) (n ∷ [])))
      (first_more n (find p (range_with_len 0 n)) (p n) refl (find_is_first n))

module _ (f : ℕ → ℕ) where
  pub sum_is_sum : (n : ℕ) → sum_by f (range_with_len 0 n) ≡ sum n f
  unfolding sum
  sum_is_sum zero = refl
  sum_is_sum (suc n) =
      ap (sum_by f) (range_suc n) ∙ sum_by_push f (range_with_len 0 n) n ∙ ap (λ k. k + f n) (sum_is_sum n)

-- a list's elements in turn
module _ {A : Type 0} (d : A) (xs : List A) where
  by_index : xs ≡ map (λ i. get_or xs i d) (range_with_len 0 (length xs))
  by_index = fill_by_all (λ i. get_or xs i d) xs (length xs) d refl (λ k h. refl)

  pub list_all_is_all : (p : A → Bool) → list_all p xs ≡ all (length xs) (λ i. p (get_or xs i d))
  list_all_is_all p =
      ap (list_all p) by_index
      ∙ list_all-map p (λ i. get_or xs i d) (range_with_len 0 (length xs))
      ∙ all_is_all (λ i. p (get_or xs i d)) (length xs)

-- What the calls that run a chain over 0..n give: any, all and find.
use Rattle.std.proofs.Common.{ℕ, Bool, true, false, List, Option, None, Some, MatchOption, option_map, ◌≡◌, refl, sym, subst, ◌∙◌, arith, Bor}
use denote.Param.Members.{Mut}
use Rattle.std.specs.declared.ops.Range.{Range}
use Rattle.std.specs.Bool.{⊤}
use Rattle.std.specs.Fn.{Called, CalledAt}
use Rattle.std.specs.Iterator.{YieldsThen}
use Rattle.std.specs.List.{FoldsTo}
use Rattle.std.proofs.iter.Yields.{nat_range_steps}
use Rattle.std.proofs.lemmas.Iterator.{YieldsList-from_range}
use Rattle.std.proofs.lemmas.Iterator.Search.{any_from_yields_List, all_from_yields_List, find_from_yields_List}
use Rattle.counting.specs.Count.{all, some}
use Rattle.counting.proofs.Ranges.{any_is_some, all_is_all, find_is_first, FirstBelow}

-- the range 0..n
abbrev pub below : ℕ → Range ℕ
below n = record { start = 0; end = n }

module _ {F : Type 0} {g : Mut F (ℕ × Unit {0}) Bool} {s u : Range ℕ} {f : F} {r : Bool} (p : ℕ → Bool) (n : ℕ) where
  pub any_below : (xs : List ℕ) × (o : Option ℕ) × (j : F) × YieldsThen nat_range_steps s xs o u × FoldsTo (λ h x q. Called g h (x, tt) false q) f xs j × MatchOption o (r ≡ false) (λ x. (r ≡ true) × ((h : F) × Called g j (x, tt) true h))
      → s ≡ below n → ((x : ℕ) (b : Bool) (q : F) → Called g f (x, tt) b q → (q ≡ f) × (b ≡ p x)) → r ≡ some n p
  any_below ran e k = any_from_yields_List p u f r ran (YieldsList-from_range 0 n n e (omega arith)) k ∙ any_is_some p n

  pub all_below : (xs : List ℕ) × (o : Option ℕ) × (j : F) × YieldsThen nat_range_steps s xs o u × FoldsTo (λ h x q. Called g h (x, tt) true q) f xs j × MatchOption o (r ≡ true) (λ x. (r ≡ false) × ((h : F) × Called g j (x, tt) false h))
      → s ≡ below n → ((x : ℕ) (b : Bool) (q : F) → Called g f (x, tt) b q → (q ≡ f) × (b ≡ p x)) → r ≡ all n p
  all_below ran e k = all_from_yields_List p u f r ran (YieldsList-from_range 0 n n e (omega arith)) k ∙ all_is_all p n

same_option : (o : Option ℕ) → o ≡ option_map (λ x. x) o
same_option None = refl
same_option (Some x) = refl

module _ {F : Type 0} {g : Mut F (Bor ℕ × Unit {0}) Bool} {f : F} (p : ℕ → Bool) (n : ℕ) where
  module _ {s : Range ℕ} (u : Range ℕ) (r : Option ℕ) where
    pub first_below : (xs : List ℕ) × (j : F) × YieldsThen nat_range_steps s xs r u × FoldsTo (λ h x q. CalledAt g h x false q) f xs j × MatchOption r ⊤ (λ x. (h : F) × CalledAt g j x true h)
        → s ≡ below n → ((x : ℕ) (b : Bool) (q : F) → CalledAt g f x b q → (q ≡ f) × (b ≡ p x)) → FirstBelow p n r
    first_below ran e k =
        subst (FirstBelow p n) (sym (same_option r ∙ find_from_yields_List p u f r ran (YieldsList-from_range 0 n n e (omega arith)) k)) (find_is_first p n)

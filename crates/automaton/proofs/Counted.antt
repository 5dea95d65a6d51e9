-- A chain over 0, 1, .., n - 1 that adds up a test as a number counts what passes.
use Rattle.std.proofs.Common.{ℕ, ◌+◌, Bool, List, map, ◌<◌, ◌≡◌, ◌∙◌, arith}
use Rattle.std.specs.List.{range_with_len, fold}
use Rattle.std.specs.Fn.{Called}
use Rattle.std.specs.Iterator.{Drains}
use Rattle.std.specs.Iterator.Runs.{EachRunFrom}
use Rattle.std.specs.Iterator.Adapters.{map_source, map_callee}
use Rattle.std.specs.declared.iter.Map.{Map}
use Rattle.std.specs.declared.ops.Range.{Range}
use Rattle.std.proofs.iter.Yields.{nat_range_steps}
use Rattle.std.proofs.lemmas.Iterator.{YieldsList, YieldsList-from_range, YieldsList-from_map, maps}
use Rattle.std.proofs.lemmas.Iterator.Consumers.{sum_by_from_yields_List, fits_by_from_yields_list}
use Rattle.counting.specs.Count.{bit, count}
use Rattle.counting.proofs.Ranges.{sum_is_sum}
use denote.Param.Members.{Mut}

module _ {F : Type 0} {g : Mut F (ℕ × Unit {0}) ℕ} {f : F} (s : Map (Range ℕ) F) (n : ℕ) (p : ℕ → Bool)
    (range : map_source s ≡ record { start = 0; end = n }) (callee : map_callee s ≡ f)
    (test : (x r : ℕ) (q : F) → Called g f (x, tt) r q → (q ≡ f) × (r ≡ bit (p x))) where
  road : YieldsList (maps nat_range_steps g) (λ r. r) s (map (λ x. bit (p x)) (range_with_len 0 n))
  road = YieldsList-from_map g (λ x. bit (p x)) (YieldsList-from_range 0 n n range (omega arith)) callee test

  pub count_fits : (top : ℕ) → count n p < top → EachRunFrom (maps nat_range_steps g) s (λ q. fold (λ a x. a + x) 0 q.items < top)
  count_fits top below = fits_by_from_yields_list (λ x. bit (p x)) (range_with_len 0 n) s top road (omega (arith, sum_is_sum (λ x. bit (p x)) n))

  pub count_by_sum : (r : ℕ) → ((xs : List ℕ) × (Unit {0} → Drains (maps nat_range_steps g) s xs) × (r ≡ fold (λ a x. a + x) 0 xs)) → r ≡ count n p
  count_by_sum r ran = sum_by_from_yields_List (λ x. bit (p x)) (range_with_len 0 n) s r ran road ∙ sum_is_sum (λ x. bit (p x)) n

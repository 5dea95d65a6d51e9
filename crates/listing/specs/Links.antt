-- A table of links: for each node the link that joins it to one node, filled from the last link to the first.
use Rattle.std.specs.Prelude.{ℕ, ◌<◌, Bool, cond, false, List, ◌≡◌, length, set, get_or, eqb, Option, Some, None, unwrap_or}
use Rattle.std.specs.Option.{ForSome}
use Rattle.counting.specs.Count.{least}
use Rattle.paper.specs.Table.{Table}
use Rattle.paper.specs.State.{State}
use Rattle.paper.specs.Steps.{possible}
use Rattle.paper.specs.Actions.{joins, link_between, link_step, direction_from}

-- link i, from a to b, noted at the node that it joins to x
abbrev pub noted : List (Option ℕ) → ℕ → ℕ → ℕ → ℕ → List (Option ℕ)
noted l x i a b = cond (eqb a x) (set l b (Some i)) (cond (eqb b x) (set l a (Some i)) l)

-- the links from i on are noted: what is left to look at finds the link between x and each node
pub record Noted (t : Table) (x i : ℕ) (l : List (Option ℕ)) : Type 0 where
  pub size : length l ≡ 64
  pub found : (y : ℕ) → y < 64 → least i (joins t x y) (unwrap_or (get_or l y None) t.links) ≡ link_between t x y
  pub links : (y : ℕ) → y < 64 → ForSome (get_or l y None) (λ k. k < t.links)

-- the step of kinds 2 to 4 from x is possible on a link, where there is one
abbrev pub may_list : Table → State → ℕ → Option ℕ → ℕ → Bool
may_list t s kind (Some i) x = possible t s (link_step kind i (direction_from t i x))
may_list t s kind None x = false

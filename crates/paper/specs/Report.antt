-- The report of a state: outcome, root, waiting count.
use Rattle.std.specs.Prelude.{ℕ, Bool, true, false, cond, ◌&&◌, ◌||◌, ltb, leb, eqb}
use Rattle.counting.specs.Count.{count, some, least}
use Rattle.paper.specs.Table.{Table}
use Rattle.paper.specs.State.{State}
use Rattle.paper.specs.Steps.{children_known, add_child, acknowledge, resolve, become_root, possible}

-- some step on the direction (i, b) is possible
abbrev pub moves_on : Table → State → ℕ → Bool → Bool
moves_on t s i b = possible t s (add_child i b) || (possible t s (acknowledge i b) || possible t s (resolve i b))

-- some step at the node x is possible
abbrev pub moves_at : Table → State → ℕ → Bool
moves_at t s x = possible t s (children_known x) || possible t s (become_root x)

-- some step is possible
unfoldable pub moving : Table → State → Bool
moving t s = some t.nodes (moves_at t s) || some t.links (λ i. moves_on t s i false || moves_on t s i true)

abbrev pub roots : Table → State → ℕ
roots t s = count t.nodes s.root

-- the lowest root node, 255 if none
abbrev pub root_of : Table → State → ℕ
root_of t s = least t.nodes s.root 255

abbrev pub waiting_count : Table → State → ℕ
waiting_count t s = count t.nodes s.waiting

-- outcome where no step is possible: 2 root, exactly one root; 3 loop, no root, some node waiting and m at least n; 4 odd, all else
abbrev pub outcome_at_rest : ℕ → ℕ → ℕ → ℕ → ℕ
outcome_at_rest n m roots waiting =
    cond (eqb roots 1) 2 (cond (eqb roots 0 && (ltb 0 waiting && leb n m)) 3 4)

-- outcome 1 moving: some step is possible
abbrev pub outcome_of : Table → State → ℕ
outcome_of t s = cond (moving t s) 1 (outcome_at_rest t.nodes t.links (roots t s) (waiting_count t s))

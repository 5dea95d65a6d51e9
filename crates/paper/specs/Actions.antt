-- Actions: three bytes, kind, x, y. Names of nodes become links here and nowhere else.
use Rattle.std.specs.Prelude.{ℕ, suc, Bool, true, false, not, cond, ◌&&◌, ◌||◌, List, [], ◌∷◌, ◌++◌, ltb, leb, eqb}
use Rattle.counting.specs.Count.{least, joined}
use Rattle.paper.specs.Table.{Table}
use Rattle.paper.specs.State.{State}
use Rattle.paper.specs.Steps.{Step, children_known, add_child, acknowledge, resolve, become_root, possible, effect}

-- an action as read: the step that it names, or the number by which it is refused
pub data Reading : Type 0 where
  names : Step → Reading
  unread : ℕ → Reading

-- link i joins x and y, either way round
abbrev pub joins : Table → ℕ → ℕ → ℕ → Bool
joins t x y i = (eqb (t.end i false) x && eqb (t.end i true) y) || (eqb (t.end i false) y && eqb (t.end i true) x)

-- the link that joins x and y, m where none does
abbrev pub link_between : Table → ℕ → ℕ → ℕ
link_between t x y = least t.links (joins t x y) t.links

-- the direction of link i that comes from x
abbrev pub direction_from : Table → ℕ → ℕ → Bool
direction_from t i x = not (eqb (t.end i false) x)

-- the step of kinds 1 and 5 at a node
abbrev pub node_step : ℕ → ℕ → Step
node_step kind x = cond (eqb kind 1) (children_known x) (become_root x)

-- the step of kinds 2 to 4 on a direction
abbrev pub link_step : ℕ → ℕ → Bool → Step
link_step kind i b = cond (eqb kind 2) (add_child i b) (cond (eqb kind 3) (acknowledge i b) (resolve i b))

-- kinds 1 and 5 name node x, and y must be 255
abbrev pub read_node : Table → ℕ → ℕ → ℕ → Reading
read_node t kind x y = cond (ltb x t.nodes && eqb y 255) (names (node_step kind x)) (unread 9)

-- kinds 2, 3 and 4 name the link from x to y
abbrev pub read_link : Table → ℕ → ℕ → ℕ → Reading
read_link t kind x y =
    let i = link_between t x y in
    cond (ltb x t.nodes && ltb y t.nodes)
    (cond (ltb i t.links) (names (link_step kind i (direction_from t i x))) (unread 10))
    (unread 9)

abbrev pub of_node : ℕ → Bool
of_node kind = eqb kind 1 || eqb kind 5

abbrev pub of_link : ℕ → Bool
of_link kind = leb 2 kind && leb kind 4

-- 9: kind not 1 to 5, a named node n or more, or y not 255 in kinds 1 and 5; 10: kinds 2 to 4, no link joins x and y
unfoldable pub reading : Table → ℕ → ℕ → ℕ → Reading
reading t kind x y =
    cond (of_node kind) (read_node t kind x y) (cond (of_link kind) (read_link t kind x y) (unread 9))

-- the number by which an action is refused in a state, 0 if it can be taken; 11: the step isn't possible
abbrev pub refused_by : Table → State → Reading → ℕ
refused_by t s (names x) = cond (possible t s x) 0 11
refused_by t s (unread number) = number

-- the state after an action that can be taken
abbrev pub state_after : Table → State → Reading → State
state_after t s (names x) = effect t s x
state_after t s (unread number) = s

-- one entry of the list: the three bytes of an action that can be taken
abbrev pub entry : Table → State → ℕ → ℕ → ℕ → List ℕ
entry t s kind x y = cond (eqb (refused_by t s (reading t kind x y)) 0) (kind ∷ x ∷ y ∷ []) []

-- the entries of one kind and one x, ascending by y: the nodes, then 255
abbrev pub entries_at : Table → State → ℕ → ℕ → List ℕ
entries_at t s kind x = joined t.nodes (entry t s kind x) ++ entry t s kind x 255

-- the entries of one kind, ascending by x
abbrev pub entries_of : Table → State → ℕ → List ℕ
entries_of t s kind = joined t.nodes (entries_at t s kind)

-- the possible steps, three bytes each, ascending by kind, then x, then y
unfoldable pub listed : Table → State → List ℕ
listed t s = joined 5 (λ k. entries_of t s (suc k))

-- The table of labels for one piece, byte by byte.
use Rattle.std.specs.Prelude.{ℕ, ◌<◌, Bool, true, false, cond, ◌≡◌, List, length, get_or, eqb}
use Rattle.paper.specs.Table.{Table, labels}

-- the bytes are the labels after k links
pub record Labelled (t : Table) (k : ℕ) (bytes : List ℕ) : Type 0 where
  pub count : length bytes ≡ t.nodes
  pub label : (x : ℕ) → x < t.nodes → get_or bytes x 0 ≡ labels t k x

-- every byte is f of its place and of what it was
pub record Rewritten (f : ℕ → ℕ → ℕ) (before after : List ℕ) : Type 0 where
  pub count : length after ≡ length before
  pub label : (x : ℕ) → x < length before → get_or after x 0 ≡ f x (get_or before x 0)

-- a node's own number
abbrev pub own_number : ℕ → ℕ → ℕ
own_number x label = x

-- the first label in place of the second, any other as it was
abbrev pub renamed : ℕ → ℕ → ℕ → ℕ → ℕ
renamed second first x label = cond (eqb label second) first label

-- the renaming by link i: its second node's label becomes the label of its first
abbrev pub joined_by : Table → ℕ → List ℕ → ℕ → ℕ → ℕ
joined_by t i bytes = renamed (get_or bytes (t.end i true) 0) (get_or bytes (t.end i false) 0)

-- both ends of link i are below n
abbrev pub EndsWithin : Table → ℕ → ℕ → Type 0
EndsWithin t i n = (b : Bool) → t.end i b < n

-- both ends of every link are nodes
abbrev pub EndsNamed : Table → Type 0
EndsNamed t = (i : ℕ) → i < t.links → EndsWithin t i t.nodes

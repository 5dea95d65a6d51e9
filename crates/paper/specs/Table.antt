-- The table of links. A direction is a link's number and an end: (i, false) goes from the first node of link i to its second, (i, true) back.
use Rattle.std.specs.Prelude.{ℕ, zero, suc, ◌+◌, ◌<◌, Bool, true, false, not, cond, ◌≡◌, List, eqb}
use Rattle.counting.specs.Count.{bit, sum, all}
use Rattle.paper.specs.Upload.{byte_at, nodes_of, links_of, link_at}

-- n nodes, m links, and the two nodes of each link: the first at false, the second at true
pub record Table : Type 0 where
  pub nodes : ℕ
  pub links : ℕ
  pub end : ℕ → Bool → ℕ

-- the table of an upload
abbrev pub table_of : List ℕ → Table
table_of upload =
    record { nodes = nodes_of upload; links = links_of upload; end = λ i b. byte_at upload (link_at i + bit b) }

-- where a direction comes from
abbrev pub source : Table → ℕ → Bool → ℕ
source t i b = t.end i b

-- where a direction goes to
abbrev pub target : Table → ℕ → Bool → ℕ
target t i b = t.end i (not b)

-- how many directions of the table pass a test
abbrev pub directions : Table → (ℕ → Bool → Bool) → ℕ
directions t p = sum t.links (λ i. bit (p i false) + bit (p i true))

-- every end of every link is a node
abbrev pub EndsBelow : Table → Type 0
EndsBelow t = (i : ℕ) (b : Bool) → i < t.links → t.end i b < t.nodes

-- no link joins a node to itself
abbrev pub NoSelfLink : Table → Type 0
NoSelfLink t = (i : ℕ) → i < t.links → t.end i false ≡ t.end i true → ⊥

-- joined by a path of links
pub data Joined (t : Table) (x : ℕ) : ℕ → Type 0 where
  here : Joined t x x
  along : {y z : ℕ} → Joined t x y → (i : ℕ) (b : Bool) → i < t.links → source t i b ≡ y → target t i b ≡ z → Joined t x z

-- one piece, in plain terms: every node is joined to node 0
abbrev pub OnePiece : Table → Type 0
OnePiece t = (x : ℕ) → x < t.nodes → Joined t 0 x

-- one piece, worked out: every node starts with its own number as label, each link in turn gives all nodes that have its second
-- node's label the label of its first, and at the end all labels are node 0's
unfoldable pub labels : Table → ℕ → ℕ → ℕ
labels t zero x = x
labels t (suc k) x =
    cond (eqb (labels t k x) (labels t k (t.end k true))) (labels t k (t.end k false)) (labels t k x)

unfoldable pub one_piece : Table → Bool
one_piece t = all t.nodes (λ x. eqb (labels t t.links x) (labels t t.links 0))

-- The stuck set of a table: the largest set of nodes in which every node has at least two links to members of the set.
use Rattle.std.specs.Prelude.{ℕ, ◌≤◌, ◌<◌, Bool, true, not, ◌&&◌, ◌≡◌, eqb}
use Rattle.counting.specs.Count.{count}
use Rattle.paper.specs.Table.{Table, source, target, directions}

-- how many links the node x has to members of the set K
abbrev pub links_into : Table → (ℕ → Bool) → ℕ → ℕ
links_into t K x = directions t (λ i b. eqb (target t i b) x && K (source t i b))

-- every member has at least two links to members
abbrev pub Closed : Table → (ℕ → Bool) → Type 0
Closed t K = (x : ℕ) → x < t.nodes → K x ≡ true → 2 ≤ links_into t K x

-- K is the largest such set: it is one, and it holds every other
pub record Stuck (t : Table) (K : ℕ → Bool) : Type 0 where
  pub closed : Closed t K
  pub largest : (S : ℕ → Bool) → Closed t S → (x : ℕ) → x < t.nodes → S x ≡ true → K x ≡ true

-- k, the number of its nodes
abbrev pub size : Table → (ℕ → Bool) → ℕ
size t K = count t.nodes K

-- t, the number of links from K to outside it
abbrev pub border : Table → (ℕ → Bool) → ℕ
border t K = directions t (λ i b. K (source t i b) && not (K (target t i b)))

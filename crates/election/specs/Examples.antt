-- Examples of tables and of runs that can go no further: what demand 3 supposes is met.
use Rattle.std.specs.Prelude.{ℕ, ◌+◌, ◌≤◌, true, false, ◌≡◌, List, [], ◌∷◌, length}
use Rattle.paper.specs.Table.{Table, table_of, EndsBelow, NoSelfLink, OnePiece}
use Rattle.paper.specs.Steps.{Step, children_known, add_child, acknowledge, resolve, become_root, resolved}
use Rattle.paper.specs.Stuck.{Stuck, size, border}
use Rattle.paper.specs.Replays.{P3, P8, P9, P10, P12_table}
use Rattle.paper.specs.Examples.{two_loops, tail}
use Rattle.election.specs.Demand.{reached_by, Ended, RunWithoutLoop, EndWithoutLoop, RunWithLoop, EndWithLoop, LogIsRun, IsLogOf}

-- P9: a chain of three
abbrev pub chain_run : List Step
chain_run =
    children_known 0
    ∷ children_known 2
    ∷ add_child 0 false
    ∷ add_child 1 true
    ∷ become_root 1
    ∷ children_known 1
    ∷ acknowledge 0 true
    ∷ acknowledge 1 false
    ∷ []

-- P3: two nodes that contend
abbrev pub contending_run : List Step
contending_run =
    children_known 0 ∷ children_known 1 ∷ acknowledge 0 false ∷ acknowledge 0 true ∷ resolve 0 false ∷ become_root 1 ∷ []

-- P8: a loop of three with one node more
abbrev pub loop_run : List Step
loop_run = children_known 3 ∷ add_child 3 false ∷ []

-- a loop of three with a tail of two
abbrev pub tail_run : List Step
tail_run = children_known 4 ∷ add_child 4 true ∷ children_known 3 ∷ add_child 3 true ∷ acknowledge 4 false ∷ []

-- a table with all that demand 3 supposes, and a run of it that can go no further
pub record Example (t : Table) (xs : List Step) : Type 0 where
  pub one : 1 ≤ t.nodes
  pub below : EndsBelow t
  pub apart : NoSelfLink t
  pub joined : OnePiece t
  pub ended : Ended t xs

-- no loop: a run's steps and contentions resolved, and all that demand 3 says of it
pub record Elects (t : Table) (xs : List Step) (steps contentions : ℕ) : Type 0 where
  pub example : Example t xs
  pub no_loop : t.links + 1 ≡ t.nodes
  pub taking : length xs ≡ steps
  pub resolving : resolved xs ≡ contentions
  pub every : RunWithoutLoop t xs
  pub end : EndWithoutLoop t xs

-- a loop: a run's steps, the stuck set that it leaves with its size and its border, and all that demand 3 says of it
pub record Sticks (t : Table) (xs : List Step) (steps k out : ℕ) : Type 0 where
  pub example : Example t xs
  pub loop : t.nodes ≤ t.links
  pub taking : length xs ≡ steps
  pub stuck : Stuck t (reached_by t xs).waiting
  pub holding : size t (reached_by t xs).waiting ≡ k
  pub bordering : border t (reached_by t xs).waiting ≡ out
  pub every : RunWithLoop t xs
  pub end : EndWithLoop t (reached_by t xs).waiting xs

pub record Examples : Type 0 where
  -- n 3: 3n - 1 steps, no contention
  pub chain : Elects (table_of P9) chain_run 8 0
  -- n 2: 3n steps, one contention
  pub contending : Elects (table_of P3) contending_run 6 1
  -- n 4, k 3, t 1: 3(n - k) - t steps
  pub loop : Sticks (table_of P8) loop_run 2 3 1
  -- n 5, k 3, t 1
  pub behind_loop : Sticks (table_of tail) tail_run 5 3 1
  -- two loops and a path between them: all seven nodes are stuck
  pub between_loops : Sticks (table_of two_loops) [] 0 7 0
  -- two links between two nodes: both are stuck
  pub two_links : Sticks (table_of P10) [] 0 2 0
  -- the log of the two nodes that contend is P3, with the table of P12
  pub contending_log : LogIsRun P3 contending_run
  pub log_of_contending : IsLogOf P12_table contending_run P3

-- What demand 3 says of the run of each example, added up and not taken from its proof: a false number in the demand is a false equation here.
use Prim.Native.Nat.{ℕ}
use mathlib.Core.Bool.{false}
use mathlib.Core.Path.{◌≡◌, refl}
use mathlib.Core.List.{List, []}
use native.Mathlib.Omega.{arith}
use lib.Dec.{eqb}
use borrow.Author.Tests.{eqb-false}
use Rattle.counting.specs.Count.{sum}
use Rattle.counting.proofs.Sums.{count_zero}
use Rattle.paper.specs.Table.{Table, table_of}
use Rattle.paper.specs.Steps.{Step, possible, effect, after, resolved}
use Rattle.paper.specs.Replays.{P3, P8, P9, P10}
use Rattle.paper.specs.Examples.{two_loops, tail}
use Rattle.election.specs.Demand.{reached_by, RunWithoutLoop, EndWithoutLoop, RunWithLoop, EndWithLoop}
use Rattle.election.specs.Examples.{chain_run, contending_run, loop_run, tail_run}

-- numbers that the test tells apart are not equal
apart : {A : Type 0} {j k : ℕ} → eqb j k ≡ false → j ≡ k → A
apart e p = absurd (eqb-false _ _ e p)

-- all that is said without a loop
abbrev pub Without : Table → List Step → Type 0
Without t xs = RunWithoutLoop t xs × EndWithoutLoop t xs

pub chain_adds_up : Without (table_of P9) chain_run
unfolding sum possible effect after resolved
chain_adds_up = (
  record { few_roots = omega arith; few_resolved = omega arith },
  record {
    one_root = refl;
    none_waits = count_zero 3 (reached_by (table_of P9) chain_run).waiting refl;
    steps = λ none. refl;
    steps_resolved = apart refl;
  },
)

pub contending_adds_up : Without (table_of P3) contending_run
unfolding sum possible effect after resolved
contending_adds_up = (
  record { few_roots = omega arith; few_resolved = omega arith },
  record {
    one_root = refl;
    none_waits = count_zero 2 (reached_by (table_of P3) contending_run).waiting refl;
    steps = apart refl;
    steps_resolved = λ one. refl;
  },
)

-- all that is said with a loop, of the nodes that still wait
abbrev pub With : Table → List Step → Type 0
With t xs = RunWithLoop t xs × EndWithLoop t (reached_by t xs).waiting xs

pub loop_adds_up : With (table_of P8) loop_run
unfolding sum possible effect after resolved
loop_adds_up = (record { no_root = refl; none_resolved = refl }, record { steps = refl; still_wait = λ x l. refl; size_waits = refl })

pub tail_adds_up : With (table_of tail) tail_run
unfolding sum possible effect after resolved
tail_adds_up = (record { no_root = refl; none_resolved = refl }, record { steps = refl; still_wait = λ x l. refl; size_waits = refl })

pub between_adds_up : With (table_of two_loops) []
unfolding sum possible effect after resolved
between_adds_up = (record { no_root = refl; none_resolved = refl }, record { steps = refl; still_wait = λ x l. refl; size_waits = refl })

pub links_adds_up : With (table_of P10) []
unfolding sum possible effect after resolved
links_adds_up = (record { no_root = refl; none_resolved = refl }, record { steps = refl; still_wait = λ x l. refl; size_waits = refl })

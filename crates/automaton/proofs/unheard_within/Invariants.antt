-- So many directions of the links below i lack child, and they are few.
use Rattle.std.proofs.Common.{◌≡◌, ◌≤◌}
use Rattle.counting.specs.Count.{sum}
use Rattle.marks.specs.Shown.{table, shown}
use Rattle.automaton.specs.Tried.{lacking}
use Rattle.automaton.proofs.unheard_within.Given as goal

abbrev pub invariant-loop-i : goal.invariant-loop-i
invariant-loop-i l =
    (l.count ≡ sum l.i (lacking (table l.view) (shown l.view) l.x)) × (l.count ≤ l.i) × (l.count ≤ l.few)

use Rattle.std.proofs.Common.{◌+◌, ◌*◌}
use Rattle.marks.specs.Shown.{table, shown}
use Rattle.first.specs.Places.{Nearest}
use Rattle.first.proofs.first_on_links.Given as goal

abbrev pub invariant-loop-link : goal.invariant-loop-link
invariant-loop-link l = Nearest (table l.view) (shown l.view) l.kind (2 * l.link) l.first

abbrev pub invariant-loop-back : goal.invariant-loop-back
invariant-loop-back l =
    Nearest (table l.view) (shown l.view) l.kind (2 * l.link + l.back-index) l.first

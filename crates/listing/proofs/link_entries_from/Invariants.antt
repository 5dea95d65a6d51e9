use Rattle.std.proofs.Common.{◌*◌}
use Rattle.counting.specs.Count.{joined}
use Rattle.paper.specs.Actions.{entry}
use Rattle.upload.specs.Kinds.{link_number}
use Rattle.marks.specs.Shown.{table, shown}
use Rattle.listing.specs.Appends.{Appends}
use Rattle.listing.proofs.link_entries_from.Given as goal

abbrev pub invariant-loop-y : goal.invariant-loop-y
invariant-loop-y l =
    Appends l.initial.writer (joined l.y (entry (table l.view) (shown l.view) (link_number l.kind) l.x)) (1 * l.y) l.writer

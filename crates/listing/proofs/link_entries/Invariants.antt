use Rattle.std.proofs.Common.{◌*◌}
use Rattle.counting.specs.Count.{joined}
use Rattle.paper.specs.Actions.{entries_at}
use Rattle.upload.specs.Kinds.{link_number}
use Rattle.marks.specs.Shown.{table, shown}
use Rattle.listing.specs.Appends.{Appends}
use Rattle.listing.proofs.link_entries.Given as goal

abbrev pub invariant-loop-x : goal.invariant-loop-x
invariant-loop-x l =
    Appends l.initial.writer (joined l.x (entries_at (table l.view) (shown l.view) (link_number l.kind))) (63 * l.x) l.writer

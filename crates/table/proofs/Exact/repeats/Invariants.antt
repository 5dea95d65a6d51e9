-- `repeats` meets its contract. The loop's invariant: found so far is that one of the links below j joins the same two nodes.
use Rattle.std.proofs.Common.{◌≡◌}
use Rattle.counting.specs.Count.{some}
use Rattle.paper.specs.Table.{table_of}
use Rattle.paper.specs.Actions.{joins}
use Rattle.table.proofs.Exact.repeats.Given as goal

abbrev pub invariant-loop-j : goal.invariant-loop-j
invariant-loop-j l = l.found ≡ some l.j (joins (table_of l.self.upload.bytes.now) l.x l.y)

-- `check_links` meets its contract. The loop's invariant: the links below i pass.
use Rattle.paper.specs.Table.{table_of}
use Rattle.table.proofs.Order.{Clear}
use Rattle.table.proofs.Exact.check_links.Given as goal

abbrev pub invariant-loop-i : goal.invariant-loop-i
invariant-loop-i l = Clear (table_of l.self.upload.bytes.now) 0 l.i

-- `join_links` meets its contract. The loop's invariant: the bytes are the labels after i links.
use Rattle.paper.specs.Table.{table_of}
use Rattle.table.specs.Labels.{Labelled}
use Rattle.table.proofs.Exact.join_links.Given as goal

abbrev pub invariant-loop-i : goal.invariant-loop-i
invariant-loop-i l = Labelled (table_of l.self.upload.bytes.now) l.i l.labels

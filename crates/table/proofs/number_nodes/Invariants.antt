-- `number_nodes` meets its contract. The loop's invariant: the bytes below x have their own numbers.
use Rattle.table.specs.Labels.{own_number}
use Rattle.table.proofs.Labels.{Reached}
use Rattle.table.proofs.number_nodes.Given as goal

abbrev pub invariant-loop-x : goal.invariant-loop-x
invariant-loop-x l = Reached own_number l.initial.labels l.x l.labels

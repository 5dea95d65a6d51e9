-- `relabel` meets its contract. The loop's invariant: the bytes before the label are renamed.
use Rattle.table.specs.Labels.{renamed}
use Rattle.table.proofs.Labels.{Reached}
use Rattle.table.proofs.relabel.Given as goal

abbrev pub invariant-loop-label : goal.invariant-loop-label
invariant-loop-label l = Reached (renamed l.second l.first) l.initial.labels l.label-index l.labels

-- As a term, so that another test falls at the test.
use Rattle.std.proofs.Common.{false, ◌&&◌, ◌≡◌, refl}
use Rattle.std.proofs.Math.Dec.{eqb, ltb}
use Rattle.marks.specs.Shown.{table}
use Rattle.automaton.proofs.try_node.Goals as goal

pub returns-else-x-nodes : goal.returns-else-x-nodes
returns-else-x-nodes c =
    let read : (ltb c.args.x (table c.args.view.now).nodes && eqb c.args.y 255) ≡ false = rw (← c.nodes.ensures.0) c.if-x-nodes.false in
    rw read (record { number = refl; reads = refl })

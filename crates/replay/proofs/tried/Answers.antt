use Rattle.std.proofs.Common.{rules}
use Rattle.replay.proofs.Acted.{by_node, by_link, by_none}
use Rattle.replay.proofs.tried.Goals as goal

pub returns-in-Ok-Node : goal.returns-in-Ok-Node
returns-in-Ok-Node c =
    let a = c.args in
    by_node _ _ a.kind a.x a.y c.in-Ok-Node.kind (search rules) (rw (c.from.ensures, c.from-in-Ok-Node.ensures) at c.try_node.ensures)

pub returns-in-Ok-Link : goal.returns-in-Ok-Link
returns-in-Ok-Link c =
    let a = c.args in
    by_link _ _ a.kind a.x a.y c.in-Ok-Link.kind (search rules) (rw (c.from-in-Ok-Link.ensures, c.from-in-Ok-Link-2.ensures) at c.try_link.ensures)

pub returns-in-Err : goal.returns-in-Err
returns-in-Err c = by_none _ _ c.args.kind c.args.x c.args.y c.in-Err.ensures.1

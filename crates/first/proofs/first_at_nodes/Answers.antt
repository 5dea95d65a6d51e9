use Rattle.std.proofs.Common.{rules, tests}
use Rattle.counting.proofs.Chains.{first_below}
use Rattle.marks.specs.Shown.{table, shown}
use Rattle.first.proofs.Nodes.{may_at, least_at_nodes}
use Rattle.first.proofs.first_at_nodes.Goals as goal

pub returns : goal.returns
returns c =
    let t = table c.args.view.now in
    let s = shown c.args.view.now in
    least_at_nodes t s c.args.kind c.find.result c.map.result
    (first_below (may_at t s c.args.kind) t.nodes _ _ c.find.ensures.ran (search rules) (λ x b q k. search (rules, tests)))
    (search rules)

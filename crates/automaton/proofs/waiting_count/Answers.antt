use Rattle.std.proofs.Common.{rules, tests, arith}
use Rattle.counting.proofs.Sums.{count_below}
use Rattle.marks.specs.Shown.{table, shown}
use Rattle.automaton.proofs.Counted.{count_fits, count_by_sum}
use Rattle.automaton.proofs.waiting_count.Goals as goal

pub sum-requires-clause-fits : goal.sum-requires-clause-fits
sum-requires-clause-fits c =
    let v = c.args.view.now in
    let n = (table v).nodes in
    let marked = (shown v).waiting in
    count_fits c.map.result n marked (search rules) c.map.ensures.closure (λ x r q k. search (rules, tests)) _ (omega (arith, count_below n marked, v.cabling.passes.nodes_fit))

pub returns : goal.returns
returns c =
    let v = c.args.view.now in
    count_by_sum c.map.result (table v).nodes (shown v).waiting (search rules) c.map.ensures.closure (λ x r q k. search (rules, tests)) _ c.sum.ensures.ran

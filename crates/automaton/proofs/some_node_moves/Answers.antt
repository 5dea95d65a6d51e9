use Rattle.std.proofs.Common.{rules, tests}
use Rattle.counting.proofs.Chains.{any_below}
use Rattle.automaton.proofs.some_node_moves.Goals as goal

pub returns : goal.returns
returns c = any_below _ _ c.any.ensures.ran (search rules) (λ x b q k. search (rules, tests))

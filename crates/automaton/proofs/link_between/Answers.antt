use Rattle.std.proofs.Common.{rules, tests}
use Rattle.counting.proofs.Chains.{first_below}
use Rattle.automaton.proofs.Found.{told_least}
use Rattle.automaton.proofs.link_between.Goals as goal

pub returns : goal.returns
returns c =
    told_least _ _ _ _ (first_below _ _ _ _ c.find.ensures.ran (search rules) (λ x b q k. search (rules, tests)))

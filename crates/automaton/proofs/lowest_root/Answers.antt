use Rattle.std.proofs.Common.{rules, tests}
use Rattle.std.proofs.lemmas.Option.{MatchOption-at_none, MatchOption-at_some}
use Rattle.counting.proofs.Chains.{first_below}
use Rattle.marks.specs.Shown.{table, shown}
use Rattle.automaton.proofs.Found.{told_least}
use Rattle.automaton.proofs.lowest_root.Goals as goal

pub returns-in_err-x : goal.returns-in_err-x
returns-in_err-x c =
    let v = c.args.view.now in
    let first = first_below (shown v).root (table v).nodes _ _ c.find.ensures.ran (search rules) (λ x b q k. search (rules, tests)) in
    rw c.from_residual.ensures (MatchOption-at_none _ _ c.in_err-x.was (told_least _ 255 _ _ first))

pub returns : goal.returns
returns c =
    let v = c.args.view.now in
    let first = first_below (shown v).root (table v).nodes _ _ c.find.ensures.ran (search rules) (λ x b q k. search (rules, tests)) in
    MatchOption-at_some _ _ _ c.in_ok-x.was (told_least _ 255 _ _ first)

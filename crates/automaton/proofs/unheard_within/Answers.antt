use Rattle.std.proofs.Common.{◌+◌, sym, arith}
use Rattle.std.proofs.lemmas.Bool.{lt-leb}
use Rattle.counting.proofs.Sums.{sum_more, sum_front}
use Rattle.marks.specs.Shown.{table, shown}
use Rattle.automaton.specs.Tried.{lacking}
use Rattle.automaton.proofs.unheard_within.Goals as goal

pub returns-then-few-count : goal.returns-then-few-count
returns-then-few-count c =
    let v = c.args.view.now in
    let terms = lacking (table v) (shown v) c.args.x in
    let i = c.loop-i.i in
    let front = sum_front (i + 1) (table v).links terms (omega (arith, c.loop-i-test.true, c.links-i-end.ensures.0)) in
    sym (lt-leb _ _ (omega (arith, c.lacking_on-count.ensures.0, c.loop-i.invariant.0, sum_more i terms, front)))

use Rattle.std.proofs.Common.{arith, length, rules, tests}
use Rattle.std.proofs.lemmas.Iterator.{YieldsList-from_slice, YieldsList-from_map}
use Rattle.std.proofs.lemmas.Iterator.Consumers.{YieldsList-from_enumerate, sum_by_from_yields_List}
use Rattle.paper.specs.Lines.{line_of}
use Rattle.lines.proofs.Ordered.{lines_most, lines_width}
use Rattle.lines.proofs.lines_width.Goals as goal

pub returns : goal.returns
returns c =
    let answers = c.args.answers.now in
    let each = sum_by_from_yields_List (λ p. length (line_of p.0 p.1)) _ c.map.result c.sum.result c.sum.ensures.ran
    (YieldsList-from_map _ (λ p. length (line_of p.0 p.1)) (YieldsList-from_enumerate (YieldsList-from_slice answers cc) (cc)) c.map.ensures.closure (λ x r q k. search (rules, tests))) in
    omega (arith, each, lines_width 0 answers, lines_most 0 answers)

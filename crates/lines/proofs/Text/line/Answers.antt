use Rattle.std.proofs.Common.{arith, sym}
use Rattle.paper.specs.Lines.{line_of}
use Rattle.lines.proofs.Written.{then}
use Rattle.lines.proofs.Text.line.Goals as goal

pub returns : goal.returns
unfolding line_of
returns c =
    rw (sym c.from.ensures, sym c.from-2.ensures, sym c.from-3.ensures, sym c.from-4.ensures)
    (then (then (then (then (then (then (then c.decimal.ensures.0 c.next.ensures.0) c.next-2.ensures.0) c.next-3.ensures.0) c.next-4.ensures.0) c.next-5.ensures.0) c.next-6.ensures.0) c.push.ensures, omega arith)

use Rattle.std.proofs.Common.{arith, sym, length-append}
use Rattle.paper.specs.Lines.{line_of}
use Rattle.lines.proofs.line_width.Goals as goal

pub returns : goal.returns
unfolding line_of
returns c =
    (rw (sym c.from.ensures, sym c.from-2.ensures, sym c.from-3.ensures, sym c.from-4.ensures) (simp length-append (omega arith)), omega arith)

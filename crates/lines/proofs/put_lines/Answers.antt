use Rattle.std.proofs.Common.{◌<◌, arith, length, refl}
use Rattle.paper.specs.Lines.{lines_from}
use Rattle.lines.proofs.Written.{then}
use Rattle.lines.proofs.Ordered.{lines_next, unwritten}
use Rattle.lines.proofs.put_lines.Goals as goal

pub loop-i-init : goal.loop-i-init
unfolding lines_from
loop-i-init c = (omega arith, record { left = refl; place = refl; same_buffer = refl })

pub loop-i-preserved : goal.loop-i-preserved
loop-i-preserved c =
    let inside : c.loop-i.i < length c.args.answers.now = omega arith in
    (omega arith, rw (lines_next c.loop-i.i c.args.answers.now unwritten inside) at (then c.loop-i.invariant.1 c.line.ensures.0))

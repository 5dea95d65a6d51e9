use Rattle.std.proofs.Common.{rules, sym, subst, length, ◌-◌}
use Rattle.std.specs.Io.KnownBytes.{Consumes}
use Rattle.std.proofs.KnownBytes.{Consumes-trans}
use Rattle.cases.proofs.Seam.{take-put_mid}
use Rattle.cases.proofs.filled.Goals as goal

-- what has come, and then what one more read brings
pub loop-done-preserved : goal.loop-done-preserved
loop-done-preserved g c =
    let room = length c.loop-done.buffer - c.loop-done.done in
    let seam = take-put_mid c.loop-done.done room c.in_ok-n.n c.loop-done.buffer c.read.new.buf c.loop-done.invariant.0 c.in_ok-n.ensures.bound.0 in
    (search rules, subst (Consumes _ _) (sym seam) (Consumes-trans _ _ _ _ _ c.loop-done.invariant.1 c.in_ok-n.ensures.bytes.0))

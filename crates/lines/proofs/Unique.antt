-- No second answer meets the contract of a public function of this crate.
use mathlib.Core.Path.{refl}
use Rattle.determined.specs.Determined.{Determined}
use Rattle.determined.proofs.Equations.{same, lent, unlent}
use Rattle.lines.proofs.write
use Rattle.lines.proofs.write_refused

pub write_determined : Determined write.Kinds.ps write.Kinds.r write.Reads.Pre write.Reads.Learnt
write_determined κs a pre z z' w w' p q =
    (same p.answered q.answered, unlent (lent p.left q.left refl))

pub write_refused_determined : Determined write_refused.Kinds.ps write_refused.Kinds.r write_refused.Reads.Pre write_refused.Reads.Learnt
write_refused_determined κs a pre z z' w w' p q = (same p.answered q.answered, lent p.left q.left refl)

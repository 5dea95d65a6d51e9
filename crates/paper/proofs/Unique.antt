-- No second answer meets the contract of a public function of this crate.
use mathlib.Core.Path.{refl}
use Rattle.determined.specs.Determined.{Determined}
use Rattle.determined.proofs.Equations.{same}
use Rattle.paper.proofs.Answer.refused

pub refused_determined : Determined refused.Kinds.ps refused.Kinds.r refused.Reads.Pre refused.Reads.Learnt
refused_determined κs a pre z z' w w' p q = (same p q, refl)

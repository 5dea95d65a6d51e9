-- No second answer meets the contract of a public function of this crate.
use mathlib.Core.Path.{refl}
use Rattle.determined.specs.Determined.{Determined}
use Rattle.determined.proofs.Equations.{same, lent, unlent}
use Rattle.batch.proofs.entry
use Rattle.batch.proofs.lines

pub entry_determined : Determined entry.Kinds.ps entry.Kinds.r entry.Reads.Pre entry.Reads.Learnt
entry_determined κs a pre z z' w w' p q = (same p q, refl)

pub lines_determined : Determined lines.Kinds.ps lines.Kinds.r lines.Reads.Pre lines.Reads.Learnt
lines_determined κs a pre z z' w w' p q = (same p.0 q.0, unlent (lent p.1 q.1 refl))

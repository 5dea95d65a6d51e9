-- No second answer meets the contract of a public function of this crate.
use mathlib.Core.Path.{refl}
use Rattle.determined.specs.Determined.{Determined}
use Rattle.determined.proofs.Equations.{same, lent, unlent}
use Rattle.replay.proofs.fresh
use Rattle.replay.proofs.report
use Rattle.replay.proofs.list
use Rattle.replay.proofs.step
use Rattle.replay.proofs.run
use Rattle.replay.proofs.replay

pub fresh_determined : Determined fresh.Kinds.ps fresh.Kinds.r fresh.Reads.Pre fresh.Reads.Learnt
fresh_determined κs a pre z z' w w' p q = (same p.0 q.0, unlent (lent p.1 q.1 refl))

pub report_determined : Determined report.Kinds.ps report.Kinds.r report.Reads.Pre report.Reads.Learnt
report_determined κs a pre z z' w w' p q = (same p q, refl)

pub list_determined : Determined list.Kinds.ps list.Kinds.r list.Reads.Pre list.Reads.Learnt
list_determined κs a pre z z' w w' p q = (same p.0 q.0, unlent (unlent (lent p.1 q.1 refl)))

pub step_determined : Determined step.Kinds.ps step.Kinds.r step.Reads.Pre step.Reads.Learnt
step_determined κs a pre z z' w w' p q = (same p.0 q.0, unlent (lent p.1 q.1 refl))

pub run_determined : Determined run.Kinds.ps run.Kinds.r run.Reads.Pre run.Reads.Learnt
run_determined κs a pre z z' w w' p q = (same p.0 q.0, unlent (lent p.1 q.1 refl))

pub replay_determined : Determined replay.Kinds.ps replay.Kinds.r replay.Reads.Pre replay.Reads.Learnt
replay_determined κs a pre z z' w w' p q = (same p q, refl)

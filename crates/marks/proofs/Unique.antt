-- No second answer meets the contract of a public function of this crate.
use mathlib.Core.Path.{refl}
use Rattle.determined.specs.Determined.{Determined}
use Rattle.determined.proofs.Equations.{same}
use Rattle.marks.proofs.View.waiting
use Rattle.marks.proofs.View.contending
use Rattle.marks.proofs.View.root
use Rattle.marks.proofs.View.child
use Rattle.marks.proofs.View.carrying
use Rattle.marks.proofs.View.requesting

pub waiting_determined : Determined waiting.Kinds.ps waiting.Kinds.r waiting.Reads.Pre waiting.Reads.Learnt
waiting_determined κs a pre z z' w w' p q = (same p q, refl)

pub contending_determined : Determined contending.Kinds.ps contending.Kinds.r contending.Reads.Pre contending.Reads.Learnt
contending_determined κs a pre z z' w w' p q = (same p q, refl)

pub root_determined : Determined root.Kinds.ps root.Kinds.r root.Reads.Pre root.Reads.Learnt
root_determined κs a pre z z' w w' p q = (same p q, refl)

pub child_determined : Determined child.Kinds.ps child.Kinds.r child.Reads.Pre child.Reads.Learnt
child_determined κs a pre z z' w w' p q = (same p q, refl)

pub carrying_determined : Determined carrying.Kinds.ps carrying.Kinds.r carrying.Reads.Pre carrying.Reads.Learnt
carrying_determined κs a pre z z' w w' p q = (same p q, refl)

pub requesting_determined : Determined requesting.Kinds.ps requesting.Kinds.r requesting.Reads.Pre requesting.Reads.Learnt
requesting_determined κs a pre z z' w w' p q = (same p q, refl)

-- No second answer meets the contract of a public function of this crate.
use mathlib.Core.Path.{refl}
use Rattle.determined.specs.Determined.{Determined}
use Rattle.determined.proofs.Equations.{same}
use Rattle.table.proofs.Told.{told_once}
use Rattle.table.proofs.refusal.Refusal.number
use Rattle.table.proofs.refusal.Refusal.place
use Rattle.table.proofs.check

pub number_determined : Determined number.Kinds.ps number.Kinds.r number.Reads.Pre number.Reads.Learnt
number_determined κs a pre z z' w w' p q = (same p q, refl)

pub place_determined : Determined place.Kinds.ps place.Kinds.r place.Reads.Pre place.Reads.Learnt
place_determined κs a pre z z' w w' p q = (same p q, refl)

pub check_determined : Determined check.Kinds.ps check.Kinds.r check.Reads.Pre check.Reads.Learnt
check_determined κs a pre z z' w w' p q = (told_once z z' _ (same p.0 q.0) p.1 q.1, refl)

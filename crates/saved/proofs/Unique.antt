-- No second answer meets the contract of a public function of this crate.
use mathlib.Core.Path.{refl}
use Rattle.determined.specs.Determined.{Determined}
use Rattle.determined.proofs.Equations.{same, lent, unlent}
use Rattle.saved.proofs.too_long
use Rattle.saved.proofs.unopened_line
use Rattle.saved.proofs.unread_line
use Rattle.saved.proofs.too_long_line
use Rattle.saved.proofs.answer_line
use Rattle.saved.proofs.progress_line
use Rattle.saved.proofs.totals_line

pub too_long_determined : Determined too_long.Kinds.ps too_long.Kinds.r too_long.Reads.Pre too_long.Reads.Learnt
too_long_determined κs a pre z z' w w' p q = (same p q, refl)

pub unopened_line_determined : Determined unopened_line.Kinds.ps unopened_line.Kinds.r unopened_line.Reads.Pre unopened_line.Reads.Learnt
unopened_line_determined κs a pre z z' w w' p q = (same p.counted q.counted, unlent (lent p.left q.left refl))

pub unread_line_determined : Determined unread_line.Kinds.ps unread_line.Kinds.r unread_line.Reads.Pre unread_line.Reads.Learnt
unread_line_determined κs a pre z z' w w' p q = (same p.counted q.counted, unlent (lent p.left q.left refl))

pub too_long_line_determined : Determined too_long_line.Kinds.ps too_long_line.Kinds.r too_long_line.Reads.Pre too_long_line.Reads.Learnt
too_long_line_determined κs a pre z z' w w' p q = (same p.counted q.counted, unlent (lent p.left q.left refl))

pub answer_line_determined : Determined answer_line.Kinds.ps answer_line.Kinds.r answer_line.Reads.Pre answer_line.Reads.Learnt
answer_line_determined κs a pre z z' w w' p q = (same p.counted q.counted, unlent (unlent (lent p.left q.left refl)))

pub progress_line_determined : Determined progress_line.Kinds.ps progress_line.Kinds.r progress_line.Reads.Pre progress_line.Reads.Learnt
progress_line_determined κs a pre z z' w w' p q = (same p.counted q.counted, unlent (lent p.left q.left refl))

pub totals_line_determined : Determined totals_line.Kinds.ps totals_line.Kinds.r totals_line.Reads.Pre totals_line.Reads.Learnt
totals_line_determined κs a pre z z' w w' p q = (same p.counted q.counted, unlent (unlent (lent p.left q.left refl)))

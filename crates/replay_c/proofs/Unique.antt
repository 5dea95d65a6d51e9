-- No second answer meets the contract of a public function of this crate.
use mathlib.Core.Path.{refl}
use Rattle.determined.specs.Determined.{Determined}
use Rattle.determined.proofs.Equations.{same, lent, unlent}
use Rattle.replay_c.proofs.word
use Rattle.replay_c.proofs.replay_fresh
use Rattle.replay_c.proofs.replay_report
use Rattle.replay_c.proofs.replay_list
use Rattle.replay_c.proofs.replay_step
use Rattle.replay_c.proofs.replay_run
use Rattle.replay_c.proofs.replay_upload
use Rattle.replay_c.proofs.replay_entry
use Rattle.replay_c.proofs.replay_lines

pub word_determined : Determined word.Kinds.ps word.Kinds.r word.Reads.Pre word.Reads.Learnt
word_determined κs a pre z z' w w' p q = (same p.word q.word, refl)

pub replay_fresh_determined : Determined replay_fresh.Kinds.ps replay_fresh.Kinds.r replay_fresh.Reads.Pre replay_fresh.Reads.Learnt
replay_fresh_determined κs a pre z z' w w' p q =
    (same p.0.word q.0.word, unlent (lent p.1 q.1 refl))

pub replay_report_determined : Determined replay_report.Kinds.ps replay_report.Kinds.r replay_report.Reads.Pre replay_report.Reads.Learnt
replay_report_determined κs a pre z z' w w' p q = (same p.word q.word, refl)

pub replay_list_determined : Determined replay_list.Kinds.ps replay_list.Kinds.r replay_list.Reads.Pre replay_list.Reads.Learnt
replay_list_determined κs a pre z z' w w' p q =
    (same p.0.word q.0.word, unlent (unlent (lent p.1 q.1 refl)))

pub replay_step_determined : Determined replay_step.Kinds.ps replay_step.Kinds.r replay_step.Reads.Pre replay_step.Reads.Learnt
replay_step_determined κs a pre z z' w w' p q =
    (same p.0.word q.0.word, unlent (lent p.1 q.1 refl))

pub replay_run_determined : Determined replay_run.Kinds.ps replay_run.Kinds.r replay_run.Reads.Pre replay_run.Reads.Learnt
replay_run_determined κs a pre z z' w w' p q =
    (same p.0.word q.0.word, unlent (lent p.1 q.1 refl))

pub replay_upload_determined : Determined replay_upload.Kinds.ps replay_upload.Kinds.r replay_upload.Reads.Pre replay_upload.Reads.Learnt
replay_upload_determined κs a pre z z' w w' p q = (same p.word q.word, refl)

pub replay_entry_determined : Determined replay_entry.Kinds.ps replay_entry.Kinds.r replay_entry.Reads.Pre replay_entry.Reads.Learnt
replay_entry_determined κs a pre z z' w w' p q = (same p.word q.word, refl)

pub replay_lines_determined : Determined replay_lines.Kinds.ps replay_lines.Kinds.r replay_lines.Reads.Pre replay_lines.Reads.Learnt
replay_lines_determined κs a pre z z' w w' p q =
    (same p.0.word q.0.word, unlent (lent p.1 q.1 refl))

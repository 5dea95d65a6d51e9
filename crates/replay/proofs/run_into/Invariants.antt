use Rattle.replay.proofs.Running.{Underway}
use Rattle.replay.proofs.run_into.Given as goal

abbrev pub invariant-loop-steps : goal.invariant-loop-steps
invariant-loop-steps l = Underway l.cabling.upload.bytes.now l.image l.steps

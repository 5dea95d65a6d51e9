use Rattle.replay.proofs.Replaying.{Halfway}
use Rattle.replay.proofs.replay_into.Given as goal

abbrev pub invariant-loop-i : goal.invariant-loop-i
invariant-loop-i l = Halfway l.cabling.upload.bytes.now l.image l.i

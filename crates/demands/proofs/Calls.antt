-- Every call has an answer: for every input some answer, and some content of each lent buffer, meet the contract that the function has.
use mathlib.Core.Path.{refl}
use native.Mathlib.Omega.{arith}
use Rattle.determined.specs.Answered.{Answered}
use Rattle.demands.specs.Answers.{fresh_call, run_call, report_call, list_call, step_call, replay_call, entry_call, lines_call}
use Rattle.demands.proofs.Answers.{answers}
use Rattle.demands.proofs.Holds.{holds}
use Rattle.replay.proofs.fresh
use Rattle.replay.proofs.run
use Rattle.replay.proofs.report
use Rattle.replay.proofs.list
use Rattle.replay.proofs.step
use Rattle.replay.proofs.replay
use Rattle.batch.proofs.entry
use Rattle.batch.proofs.lines

pub fresh_answered : Answered fresh.Kinds.ps fresh.Kinds.r fresh.Reads.Pre fresh.Reads.Learnt
fresh_answered κs a good pre =
    let c = fresh_call a.0.now a.1.0.now in
    (_, (tt, (_, tt)), (refl, refl), holds _ _ (answers.ranges c) (omega arith), (tt, ((answers.leaves c).same_length, tt)))

pub run_answered : Answered run.Kinds.ps run.Kinds.r run.Reads.Pre run.Reads.Learnt
run_answered κs a good pre =
    let c = run_call a.0.now a.1.0.now in
    (_, (tt, (_, tt)), (refl, refl), holds _ _ (answers.ranges c) (omega arith), (tt, ((answers.leaves c).same_length, tt)))

pub report_answered : Answered report.Kinds.ps report.Kinds.r report.Reads.Pre report.Reads.Learnt
report_answered κs a good pre =
    let c = report_call a.0.now a.1.0.now in
    (_, _, refl, holds _ _ (answers.ranges c) (omega arith), (tt, (tt, tt)))

pub list_answered : Answered list.Kinds.ps list.Kinds.r list.Reads.Pre list.Reads.Learnt
list_answered κs a good pre =
    let c = list_call a.0.now a.1.0.now a.1.1.0.now in
    (_, (tt, (tt, (_, tt))), (refl, refl), holds _ _ (answers.ranges c) (omega arith), (tt, (tt, ((answers.leaves c).same_length, tt))))

pub step_answered : Answered step.Kinds.ps step.Kinds.r step.Reads.Pre step.Reads.Learnt
step_answered κs a good pre =
    let c = step_call a.0.now a.1.0.now a.1.1.0 a.1.1.1.0 a.1.1.1.1.0 in
    (_, (tt, (_, (tt, (tt, (tt, tt))))), (refl, refl), holds _ _ (answers.ranges c) (omega arith), (tt, ((answers.leaves c).same_length, (tt, (tt, (tt, tt))))))

pub replay_answered : Answered replay.Kinds.ps replay.Kinds.r replay.Reads.Pre replay.Reads.Learnt
replay_answered κs a good pre =
    let c = replay_call a.0.now in
    (_, _, refl, holds _ _ (answers.ranges c) (omega arith), (tt, tt))

pub entry_answered : Answered entry.Kinds.ps entry.Kinds.r entry.Reads.Pre entry.Reads.Learnt
entry_answered κs a good pre =
    let c = entry_call a.0.now a.1.0 in
    (_, _, refl, holds _ _ (answers.ranges c) (omega arith), (tt, (tt, tt)))

pub lines_answered : Answered lines.Kinds.ps lines.Kinds.r lines.Reads.Pre lines.Reads.Learnt
lines_answered κs a good pre =
    let c = lines_call a.0.now a.1.0.now in
    (_, (tt, (_, tt)), (refl, refl), holds _ _ (answers.ranges c) (omega arith), (tt, ((answers.leaves c).same_length, tt)))

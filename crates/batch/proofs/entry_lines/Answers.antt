use Rattle.std.proofs.Common.{◌≡◌, ℕ, ◌+◌, ◌<◌, List, arith, length, set, take, refl, add-one}
use Rattle.std.proofs.lemmas.List.{take_more_set}
use Rattle.counting.specs.Count.{list_of}
use Rattle.paper.specs.declared.Answer.{Answer}
use Rattle.paper.specs.Batch.{entry_answer}
use Rattle.batch.proofs.entry_lines.Goals as goal

-- one answer more
filled : (f : ℕ → Answer) (answers : List Answer) (i : ℕ) (answer : Answer) → i < length answers → take i answers ≡ list_of i f → answer ≡ f i → take (i + 1) (set answers i answer) ≡ list_of (i + 1) f
unfolding list_of
filled f answers i answer inside before next = rw (take_more_set answers i answer inside, add-one i, before, next)

pub loop-i-init : goal.loop-i-init
unfolding list_of
loop-i-init c = refl

pub loop-i-preserved : goal.loop-i-preserved
loop-i-preserved c =
    let inside : c.loop-i.i < length c.loop-i.answers = omega arith in
    filled (entry_answer c.args.batch.now) c.loop-i.answers c.loop-i.i c.entry.result inside c.loop-i.invariant c.entry.ensures

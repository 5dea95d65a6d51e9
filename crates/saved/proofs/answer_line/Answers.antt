use Rattle.std.proofs.Common.{◌≡◌}
use Rattle.paper.specs.Calls.{replay_answer}
use Rattle.saved.specs.Saved.{answer_line}
use Rattle.saved.proofs.answer_line.Goals as goal

pub returns : goal.returns
unfolding answer_line
returns c =
    let answered : c.replay-answer.result ≡ replay_answer c.args.upload.now = c.replay-answer.ensures in
    rw (← answered, ← c.six_numbers.ensures) c.line.ensures

use Rattle.std.proofs.Common.{ℕ, ◌+◌, ◌*◌, subst}
use Rattle.paper.specs.Upload.{byte_at}
use Rattle.replay.specs.Taken.{Taken}
use Rattle.replay.specs.Refused.{number_of}
use Rattle.replay.proofs.act_at.Goals as goal

-- The check finds this alone; with it the edit replay/replay_reads_actions_of_two_bytes falls where two terms differ.
pub returns : goal.returns
returns c =
    let a = c.args in
    let up = a.cabling.now.upload.bytes.now in
    subst (λ (m : ℕ). Taken up a.image.now (byte_at up (4 + 2 * m + 3 * a.i)) (byte_at up (4 + 2 * m + 3 * a.i + 1)) (byte_at up (4 + 2 * m + 3 * a.i + 2)) (number_of c.act.result) c.act.new.image) c.links.ensures.0 c.act.ensures

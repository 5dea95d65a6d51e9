use Rattle.std.proofs.Common.{length, arith, sym, le-ltb}
use Rattle.paper.specs.Actions.{listed}
use Rattle.marks.specs.Shown.{table, shown}
use Rattle.replay.proofs.Listed.{list_most}
use Rattle.replay.proofs.Handed.{lent_with}
use Rattle.replay.proofs.lacks_room.Goals as goal

pub returns-then-most_listed-buffer : goal.returns-then-most_listed-buffer
returns-then-most_listed-buffer c =
    let v = c.args.view.now in
    let most = list_most v.cabling.upload.bytes.now v.image.now (lent_with v.cabling v.image.now v.fits).table in
    sym (le-ltb (length c.args.buffer.now) (length (listed (table v) (shown v))) (omega (arith, most, c.most_listed.ensures, c.if-most_listed-buffer.true)))

-- The check finds this alone; with it the edit replay/list_into_too_little_room falls where two terms differ.
pub returns : goal.returns
returns c = rw c.count_listed.ensures.0

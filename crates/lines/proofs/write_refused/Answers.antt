use Rattle.std.proofs.Common.{ap, drop, ◌++◌}
use Rattle.paper.specs.Lines.{refused_line}
use Rattle.lines.proofs.Room.{room_is_short, with_room}
use Rattle.lines.proofs.write_refused.Goals as goal

pub returns-then-out-lt10 : goal.returns-then-out-lt10
returns-then-out-lt10 c = rw c.no_room.ensures (room_is_short refused_line c.args.out.now c.if-out-lt10.true)

pub returns : goal.returns
returns c =
    rw c.accepted.ensures
    (with_room {text = refused_line} (ap (λ l. l ++ drop 10 c.args.out.now) c.copy_from_slice.ensures.after) c.if-out-lt10.false)

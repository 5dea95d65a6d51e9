use Rattle.std.proofs.Common.{◌≡◌, ◌≤◌, arith, length, take}
use Rattle.std.proofs.Math.Nat.{min_comm}
use Rattle.std.proofs.lemmas.List.{take_min}
use Rattle.paper.specs.Lines.{lines_from}
use Rattle.lines.proofs.Room.{room_is_short, with_room}
use Rattle.lines.proofs.Written.{over_all}
use Rattle.lines.proofs.write.Goals as goal

pub returns-then-out-needed : goal.returns-then-out-needed
returns-then-out-needed c =
    let answers = c.args.answers.now in
    let few : take c.min.result answers ≡ take 64 answers = rw (c.min.ensures, min_comm) (take_min 64 answers) in
    rw (← few, c.no_room.ensures)
    (room_is_short (lines_from 0 (take c.min.result answers)) c.args.out.now (omega (arith, c.lines_width-needed.ensures.0)))

pub returns : goal.returns
returns c =
    let answers = c.args.answers.now in
    let few : take c.min.result answers ≡ take 64 answers = rw (c.min.ensures, min_comm) (take_min 64 answers) in
    let text = lines_from 0 (take c.min.result answers) in
    let room : length text ≤ length c.args.out.now = omega (arith, c.lines_width-needed.ensures.0) in
    rw (← few, c.accepted.ensures, c.lines_width-needed.ensures.0)
    (with_room {text = text} (over_all text c.args.out.now c.put_lines.ensures room) room)

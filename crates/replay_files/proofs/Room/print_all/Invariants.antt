use Rattle.std.proofs.Common.{◌+◌, ◌≤◌}
use Rattle.replay_files.proofs.Room.print_all.Given as goal

-- there is a name before i for each that is counted
abbrev pub invariant-loop-i : goal.invariant-loop-i
invariant-loop-i g l = l.first + l.answered + l.unread ≤ l.i

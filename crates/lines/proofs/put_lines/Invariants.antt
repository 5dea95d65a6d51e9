use Rattle.std.proofs.Common.{◌*◌, ◌≤◌, take}
use Rattle.paper.specs.Lines.{lines_from}
use Rattle.lines.specs.Text.{Writes}
use Rattle.lines.proofs.put_lines.Given as goal

abbrev pub invariant-loop-i : goal.invariant-loop-i
invariant-loop-i l = (l.text.at ≤ 42 * l.i) × Writes l.initial.text (lines_from 0 (take l.i l.answers)) l.text

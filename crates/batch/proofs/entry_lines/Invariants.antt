use Rattle.std.proofs.Common.{◌≡◌, take}
use Rattle.counting.specs.Count.{list_of}
use Rattle.paper.specs.Batch.{entry_answer}
use Rattle.batch.proofs.entry_lines.Given as goal

abbrev pub invariant-loop-i : goal.invariant-loop-i
invariant-loop-i l = take l.i l.answers ≡ list_of l.i (entry_answer l.batch)

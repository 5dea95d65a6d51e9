-- `repeats` meets its contract. The loop's invariant: found so far is that one of the links below j joins the same two nodes.
use Rattle.std.proofs.Common.{sym}
use Rattle.counting.proofs.Tests.{some_empty, some_more}
use Rattle.table.proofs.Exact.repeats.Goals as goal

pub loop-j-init : goal.loop-j-init
loop-j-init c = sym (some_empty _)

pub loop-j-preserved : goal.loop-j-preserved
loop-j-preserved c = rw (c.loop-j.invariant, c.joins-found.ensures, some_more)

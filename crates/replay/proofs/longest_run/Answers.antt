use Rattle.std.proofs.Common.{arith}
use Rattle.replay.proofs.longest_run.Goals as goal

-- The check finds this alone; with it the edit replay/run_stops_early falls where two terms differ.
pub returns : goal.returns
returns c =
    (rw (c.nodes.ensures.0, c.links.ensures.0), omega (arith, c.nodes.ensures, c.links.ensures))

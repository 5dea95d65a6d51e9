use Rattle.std.proofs.Common.{sym, ap}
use Rattle.replay.specs.Refused.{answer_of}
use Rattle.replay.proofs.answered.Goals as goal

-- The check finds this alone; with it the edit replay/engine_refuses_all falls where two terms differ.
pub returns-in-Ok : goal.returns-in-Ok
returns-in-Ok c = sym (ap answer_of c.in-Ok.is)

-- `joins` meets its contract: the nodes of the code are the definition's.
use Prim.Native.Nat.{ℕ}
use mathlib.Core.Bool.{◌&&◌, ◌||◌}
use mathlib.Core.Path.{ap₂}
use lib.Dec.{eqb}
use Rattle.upload.proofs.Upload.joins.Goals as goal

-- The check finds this alone; with it the edit upload/joins_one_way_round falls where two terms differ.
pub returns : goal.returns
returns c = ap₂ (λ (a b : ℕ). (eqb a c.args.x && eqb b c.args.y) || (eqb a c.args.y && eqb b c.args.x)) c.end-p.ensures.0 c.end-q.ensures.0

-- `too_long` meets its contract: it asks what the definition asks.
use mathlib.Core.Path.{refl}
use Rattle.saved.proofs.too_long.Goals as goal

-- The check finds this alone; with it the edit saved/longest-refused falls where two terms differ.
pub returns : goal.returns
returns c = refl

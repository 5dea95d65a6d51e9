-- `in_range` meets its contract: the code's tests are the definition's.
use mathlib.Core.Path.{refl}
use Rattle.table.proofs.in_range.Goals as goal

-- The check finds this alone; with it the edits table/no_node, one_node_too_many, one_link_too_many, one_action_too_many fall where two terms differ.
pub returns : goal.returns
returns c = refl

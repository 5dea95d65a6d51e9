-- The local facts hold in every state of every run.
use mathlib.Core.Bool.{true, and-eq-true_iff}
use mathlib.Core.Path.{◌≡◌}
use mathlib.Core.List.{List, [], ◌∷◌}
use Rattle.paper.specs.Table.{Table, EndsBelow}
use Rattle.paper.specs.State.{State, fresh}
use Rattle.paper.specs.Steps.{Step, children_known, add_child, acknowledge, resolve, become_root, possible, effect, after, taken, Run}
use Rattle.election.specs.Local.{Local}
use Rattle.election.proofs.FreshIsLocal.{local_fresh}
use Rattle.election.proofs.AfterChildrenKnown.{local_children_known}
use Rattle.election.proofs.AfterAddChild.{local_add_child}
use Rattle.election.proofs.AfterAcknowledge.{local_acknowledge}
use Rattle.election.proofs.AfterResolve.{local_resolve}
use Rattle.election.proofs.AfterBecomeRoot.{local_become_root}

-- every step keeps them
pub local_step : (t : Table) (s : State) → EndsBelow t → Local t s → (x : Step) → possible t s x ≡ true → Local t (effect t s x)
local_step t s below L (children_known x) can = local_children_known t s x L can
local_step t s below L (add_child i b) can = local_add_child t s i b L can
local_step t s below L (acknowledge i b) can = local_acknowledge t s below i b L can
local_step t s below L (resolve i b) can = local_resolve t s below i b L can
local_step t s below L (become_root x) can = local_become_root t s x L can

-- so do steps that are possible in turn, from any state that has them
pub local_after : (t : Table) → EndsBelow t → (s : State) (xs : List Step) → taken t s xs ≡ true → Local t s → Local t (after t s xs)
unfolding taken after
local_after t below s [] h L = L
local_after t below s (x ∷ xs) h L =
    let both = (and-eq-true_iff (possible t s x) (taken t (effect t s x) xs)).0 h in
    local_after t below (effect t s x) xs both.1 (local_step t s below L x both.0)

pub local_run : (t : Table) → EndsBelow t → (xs : List Step) → Run t xs → Local t (after t (fresh t) xs)
local_run t below xs run = local_after t below (fresh t) xs run (local_fresh t below)

-- No second answer meets the contract of a public function of this crate.
use Rattle.std.proofs.Common.{ℕ, List, Option, None, Some, ◌≡◌, refl, ap}
use Rattle.determined.specs.Determined.{Determined}
use Rattle.paper.specs.Table.{Table}
use Rattle.upload.specs.declared.step.Step.{Step}
use Rattle.automaton.proofs.Meant.{meant_same}
use Rattle.first.specs.Leads.{Leads}
use Rattle.first.proofs.Led.{begins_some, begins_once}
use Rattle.first.proofs.first_listed

-- two steps that lead one list
leads_once : (t : Table) (l : List ℕ) (r q : Option Step) → Leads t l r → Leads t l q → r ≡ q
leads_once t l (Some x) (Some y) h g = ap Some (meant_same (begins_once t l h g))
leads_once t l None None h g = refl
leads_once t l None (Some y) h g = absurd (search (begins_some t l))
leads_once t l (Some x) None h g = absurd (search (begins_some t l))

pub first_listed_determined : Determined first_listed.Kinds.ps first_listed.Kinds.r first_listed.Reads.Pre first_listed.Reads.Learnt
first_listed_determined κs a pre z z' w w' p q = (leads_once _ _ z z' p q, refl)

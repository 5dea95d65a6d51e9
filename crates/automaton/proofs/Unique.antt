-- No second answer meets the contract of a public function of this crate.
use Rattle.std.proofs.Common.{refl, sym, ◌∙◌, arith}
use Rattle.determined.specs.Determined.{Determined}
use Rattle.determined.proofs.Equations.{same}
use Rattle.automaton.proofs.Meant.{tried_same, told_same, outcome_same}
use Rattle.automaton.proofs.node_possible
use Rattle.automaton.proofs.link_possible
use Rattle.automaton.proofs.try_node
use Rattle.automaton.proofs.try_link
use Rattle.automaton.proofs.report_of
use Rattle.automaton.proofs.U8FromRefused.from as from_refused
use Rattle.automaton.proofs.U8FromOutcome.from as from_outcome

pub node_possible_determined : Determined node_possible.Kinds.ps node_possible.Kinds.r node_possible.Reads.Pre node_possible.Reads.Learnt
node_possible_determined κs a pre z z' w w' p q = (same p q, refl)

pub link_possible_determined : Determined link_possible.Kinds.ps link_possible.Kinds.r link_possible.Reads.Pre link_possible.Reads.Learnt
link_possible_determined κs a pre z z' w w' p q = (same p q, refl)

pub try_node_determined : Determined try_node.Kinds.ps try_node.Kinds.r try_node.Reads.Pre try_node.Reads.Learnt
try_node_determined κs a pre z z' w w' p q = (tried_same p q, refl)

pub try_link_determined : Determined try_link.Kinds.ps try_link.Kinds.r try_link.Reads.Pre try_link.Reads.Learnt
try_link_determined κs a pre z z' w w' p q = (tried_same p q, refl)

pub report_of_determined : Determined report_of.Kinds.ps report_of.Kinds.r report_of.Reads.Pre report_of.Reads.Learnt
report_of_determined κs a pre z z' w w' p q = (
  λ i. record {
    outcome = (outcome_same (p.outcome ∙ sym q.outcome)) i;
    root = (told_same _ 255 _ _ _ (omega (arith, a.0.now.cabling.passes.nodes_fit)) p.root q.root) i;
    waiting = (same p.waiting q.waiting) i;
  },
  refl,
)

pub from_refused_determined : Determined from_refused.Kinds.ps from_refused.Kinds.r from_refused.Reads.Pre from_refused.Reads.Learnt
from_refused_determined κs a pre z z' w w' p q = (same p q, refl)

pub from_outcome_determined : Determined from_outcome.Kinds.ps from_outcome.Kinds.r from_outcome.Reads.Pre from_outcome.Reads.Learnt
from_outcome_determined κs a pre z z' w w' p q = (same p q, refl)

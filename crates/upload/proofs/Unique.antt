-- No second answer meets the contract of a public function of this crate.
use mathlib.Core.Path.{refl}
use Rattle.determined.specs.Determined.{Determined}
use Rattle.determined.proofs.Equations.{same}
use Rattle.upload.proofs.byte
use Rattle.upload.proofs.Direction.reverse
use Rattle.upload.proofs.Upload.nodes
use Rattle.upload.proofs.Upload.links
use Rattle.upload.proofs.Upload.actions
use Rattle.upload.proofs.Upload.end
use Rattle.upload.proofs.Upload.joins
use Rattle.upload.proofs.Upload.direction_at
use Rattle.upload.proofs.step.NodeKindFromUsize.from as from_at_node
use Rattle.upload.proofs.step.LinkKindFromUsize.from as from_on_link
use Rattle.upload.proofs.step.KindTryFromU8.try_from as try_from
use Rattle.upload.proofs.Read.{node_once, link_once, number_once}
use Rattle.std.proofs.Common.{ℕ, Result, Ok, Err, ◌<◌, ◌⊎◌, ◌≡◌, sym, ap, ◌∙◌, arith}
use Rattle.upload.specs.declared.step.NodeKind.TheVariants.{ChildrenKnown, BecomeRoot}
use Rattle.upload.specs.declared.step.LinkKind.TheVariants.{AddChild, Acknowledge, Resolve}
use Rattle.upload.specs.declared.step.Kind.{Kind}
use Rattle.upload.specs.declared.step.Kind.TheVariants as of_kind
use Rattle.upload.specs.declared.step.NoKind.{NoKind}
use Rattle.upload.specs.Kinds.{number, Numbers}

pub byte_determined : Determined byte.Kinds.ps byte.Kinds.r byte.Reads.Pre byte.Reads.Learnt
byte_determined κs a pre z z' w w' p q = (same p.0 q.0, refl)

pub reverse_determined : Determined reverse.Kinds.ps reverse.Kinds.r reverse.Reads.Pre reverse.Reads.Learnt
reverse_determined κs a pre z z' w w' p q = (same p q, refl)

pub nodes_determined : Determined nodes.Kinds.ps nodes.Kinds.r nodes.Reads.Pre nodes.Reads.Learnt
nodes_determined κs a pre z z' w w' p q = (same p.0 q.0, refl)

pub links_determined : Determined links.Kinds.ps links.Kinds.r links.Reads.Pre links.Reads.Learnt
links_determined κs a pre z z' w w' p q = (same p.0 q.0, refl)

pub actions_determined : Determined actions.Kinds.ps actions.Kinds.r actions.Reads.Pre actions.Reads.Learnt
actions_determined κs a pre z z' w w' p q = (same p.0 q.0, refl)

pub end_determined : Determined end.Kinds.ps end.Kinds.r end.Reads.Pre end.Reads.Learnt
end_determined κs a pre z z' w w' p q = (same p.0 q.0, refl)

pub joins_determined : Determined joins.Kinds.ps joins.Kinds.r joins.Reads.Pre joins.Reads.Learnt
joins_determined κs a pre z z' w w' p q = (same p q, refl)

pub direction_at_determined : Determined direction_at.Kinds.ps direction_at.Kinds.r direction_at.Reads.Pre direction_at.Reads.Learnt
direction_at_determined κs a pre z z' w w' p q = (same p.0 q.0, refl)

pub from_at_node_determined : Determined from_at_node.Kinds.ps from_at_node.Kinds.r from_at_node.Reads.Pre from_at_node.Reads.Learnt
from_at_node_determined κs a pre z z' w w' p q = (node_once (same p q), refl)

pub from_on_link_determined : Determined from_on_link.Kinds.ps from_on_link.Kinds.r from_on_link.Reads.Pre from_on_link.Reads.Learnt
from_on_link_determined κs a pre z z' w w' p q = (link_once (same p q), refl)

in_range : (k : Kind) → (number k < 1) ⊎ (5 < number k) → ⊥
in_range (of_kind.Node ChildrenKnown) h = omega arith
in_range (of_kind.Node BecomeRoot) h = omega arith
in_range (of_kind.Link AddChild) h = omega arith
in_range (of_kind.Link Acknowledge) h = omega arith
in_range (of_kind.Link Resolve) h = omega arith

-- two answers of reading one number
kind_once : (n : ℕ) (r s : Result Kind NoKind) → Numbers n r → Numbers n s → r ≡ s
kind_once n (Ok j) (Ok k) p q = ap Ok (number_once j k (p ∙ sym q))
kind_once n (Ok j) (Err e) p q = absurd (in_range j (rw (← p) at q.1))
kind_once n (Err e) (Ok k) p q = absurd (in_range k (rw (← q) at p.1))
kind_once n (Err e) (Err f) p q = ap Err (λ i. record { 0 = (p.0 ∙ sym q.0) i })

pub try_from_determined : Determined try_from.Kinds.ps try_from.Kinds.r try_from.Reads.Pre try_from.Reads.Learnt
try_from_determined κs a pre z z' w w' p q = (kind_once _ z z' p q, refl)

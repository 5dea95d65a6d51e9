-- No second answer meets the contract of a public function of this crate.
use mathlib.Core.Path.{refl}
use Rattle.determined.specs.Determined.{Determined}
use Rattle.determined.proofs.Equations.{same}
use Rattle.cabling.proofs.Cabling.nodes
use Rattle.cabling.proofs.Cabling.links
use Rattle.cabling.proofs.Cabling.source
use Rattle.cabling.proofs.Cabling.target
use Rattle.cabling.proofs.Cabling.image_length
use Rattle.cabling.proofs.Cabling.direction_from

pub nodes_determined : Determined nodes.Kinds.ps nodes.Kinds.r nodes.Reads.Pre nodes.Reads.Learnt
nodes_determined κs a pre z z' w w' p q = (same p.0 q.0, refl)

pub links_determined : Determined links.Kinds.ps links.Kinds.r links.Reads.Pre links.Reads.Learnt
links_determined κs a pre z z' w w' p q = (same p.0 q.0, refl)

pub source_determined : Determined source.Kinds.ps source.Kinds.r source.Reads.Pre source.Reads.Learnt
source_determined κs a pre z z' w w' p q = (same p.0 q.0, refl)

pub target_determined : Determined target.Kinds.ps target.Kinds.r target.Reads.Pre target.Reads.Learnt
target_determined κs a pre z z' w w' p q = (same p.0 q.0, refl)

pub image_length_determined : Determined image_length.Kinds.ps image_length.Kinds.r image_length.Reads.Pre image_length.Reads.Learnt
image_length_determined κs a pre z z' w w' p q = (same p.0 q.0, refl)

pub direction_from_determined : Determined direction_from.Kinds.ps direction_from.Kinds.r direction_from.Reads.Pre direction_from.Reads.Learnt
direction_from_determined κs a pre z z' w w' p q = (same p q, refl)

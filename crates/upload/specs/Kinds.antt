-- The steps and their kinds by the numbers and the words of document 01.
use Rattle.std.specs.Prelude.{ℕ, ◌≡◌, ◌<◌, ◌⊎◌, cond, eqb, Result, MatchResult}
use Rattle.paper.specs.Actions.{node_step, link_step}
use Rattle.paper.specs.Steps
use Rattle.upload.specs.declared.step.NodeKind.{NodeKind}
use Rattle.upload.specs.declared.step.NodeKind.TheVariants.{ChildrenKnown, BecomeRoot}
use Rattle.upload.specs.declared.step.LinkKind.{LinkKind}
use Rattle.upload.specs.declared.step.LinkKind.TheVariants.{AddChild, Acknowledge, Resolve}
use Rattle.upload.specs.declared.step.Kind.{Kind}
use Rattle.upload.specs.declared.step.Kind.TheVariants as of_kind
use Rattle.upload.specs.declared.step.Step.{Step}
use Rattle.upload.specs.declared.step.Step.TheVariants as of_step
use Rattle.upload.specs.declared.step.NoKind.{NoKind}

-- the number of a kind at a node
abbrev pub node_number : NodeKind → ℕ
node_number ChildrenKnown = 1
node_number BecomeRoot = 5

-- the number of a kind on a direction
abbrev pub link_number : LinkKind → ℕ
link_number AddChild = 2
link_number Acknowledge = 3
link_number Resolve = 4

-- a number is read as a kind at a node: 1 as children known, every other as becoming root
abbrev pub NodeReads : ℕ → NodeKind → Type 0
NodeReads n k = node_number k ≡ cond (eqb n 1) 1 5

-- a number is read as a kind on a direction: 2 as adding a child, 3 as acknowledging, every other as resolving
abbrev pub LinkReads : ℕ → LinkKind → Type 0
LinkReads n k = link_number k ≡ cond (eqb n 2) 2 (cond (eqb n 3) 3 4)

-- the number of a kind
abbrev pub number : Kind → ℕ
number (of_kind.Node k) = node_number k
number (of_kind.Link k) = link_number k

-- the step of document 01 that a step is
abbrev pub meant : Step → Steps.Step
meant (of_step.Node k x) = node_step (node_number k) x
meant (of_step.Link k d) = link_step (link_number k) d.link d.back

-- a kind is read from its own number, and any number that is no kind's is told
abbrev pub Numbers : ℕ → Result Kind NoKind → Type 0
Numbers n r = MatchResult r (λ k. number k ≡ n) (λ e. (e.0 ≡ n) × ((n < 1) ⊎ (5 < n)))

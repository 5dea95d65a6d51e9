-- A number read as a kind names the step that document 01 reads it as.
use Rattle.std.proofs.Common.{ℕ, Bool, true, false, cond, eqb, ◌≡◌, refl, sym, ap, ◌∙◌}
use Rattle.paper.specs.Steps as paper
use Rattle.paper.specs.Actions.{node_step, link_step}
use Rattle.upload.specs.declared.step.NodeKind.{NodeKind}
use Rattle.upload.specs.declared.step.LinkKind.{LinkKind}
use Rattle.upload.specs.declared.step.NodeKind.TheVariants.{ChildrenKnown, BecomeRoot}
use Rattle.upload.specs.declared.step.LinkKind.TheVariants.{AddChild, Acknowledge, Resolve}
use Rattle.upload.specs.declared.step.Kind.{Kind}
use Rattle.upload.specs.declared.step.Kind.TheVariants as of_kind
use Rattle.upload.specs.Kinds.{node_number, link_number, number, NodeReads, LinkReads}

pub node_read : (n x : ℕ) (k : NodeKind) → NodeReads n k → node_step (node_number k) x ≡ node_step n x
node_read n x k e = ap (λ (i : ℕ). node_step i x) e ∙ go (eqb n 1)
  where
    go : (b : Bool) → node_step (cond b 1 5) x ≡ cond b (paper.children_known x) (paper.become_root x)
    go true = refl
    go false = refl

pub link_read : (n i : ℕ) (back : Bool) (k : LinkKind) → LinkReads n k → link_step (link_number k) i back ≡ link_step n i back
link_read n i back k e = ap (λ (j : ℕ). link_step j i back) e ∙ go (eqb n 2) (eqb n 3)
  where
    go : (a b : Bool) → link_step (cond a 2 (cond b 3 4)) i back ≡ cond a (paper.add_child i back) (cond b (paper.acknowledge i back) (paper.resolve i back))
    go true b = refl
    go false true = refl
    go false false = refl

-- the kind of a number
abbrev of_number : ℕ → Kind
of_number n =
    cond (eqb n 1) (of_kind.Node ChildrenKnown) (cond (eqb n 2) (of_kind.Link AddChild) (cond (eqb n 3) (of_kind.Link Acknowledge) (cond (eqb n 4) (of_kind.Link Resolve) (of_kind.Node BecomeRoot))))

of_its_number : (k : Kind) → of_number (number k) ≡ k
of_its_number (of_kind.Node ChildrenKnown) = refl
of_its_number (of_kind.Node BecomeRoot) = refl
of_its_number (of_kind.Link AddChild) = refl
of_its_number (of_kind.Link Acknowledge) = refl
of_its_number (of_kind.Link Resolve) = refl

-- two kinds of one number
pub number_once : (j k : Kind) → number j ≡ number k → j ≡ k
number_once j k e = sym (of_its_number j) ∙ ap of_number e ∙ of_its_number k

abbrev at_node : Kind → NodeKind
at_node (of_kind.Node k) = k
at_node (of_kind.Link k) = BecomeRoot

abbrev on_link : Kind → LinkKind
on_link (of_kind.Node k) = Resolve
on_link (of_kind.Link k) = k

pub node_once : {j k : NodeKind} → node_number j ≡ node_number k → j ≡ k
node_once {j} {k} e = ap at_node (number_once (of_kind.Node j) (of_kind.Node k) e)

pub link_once : {j k : LinkKind} → link_number j ≡ link_number k → j ≡ k
link_once {j} {k} e = ap on_link (number_once (of_kind.Link j) (of_kind.Link k) e)

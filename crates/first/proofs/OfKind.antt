-- The steps of one kind.
use Rattle.std.proofs.Common.{ℕ, ◌<◌, Bool, true, ◌≡◌, refl, sym, subst}
use Rattle.paper.specs.Table.{Table, source, target}
use Rattle.paper.specs.Steps.{Step, children_known, add_child, acknowledge, resolve, become_root}
use Rattle.paper.specs.Actions.{node_step, link_step, of_node, of_link}
use Rattle.paper.specs.Meanings.{kind_of, three}
use Rattle.paper.proofs.Changes.{InTable}
use Rattle.upload.specs.Kinds.{node_number, link_number}
use Rattle.upload.specs.declared.step.NodeKind.{NodeKind}
use Rattle.upload.specs.declared.step.NodeKind.TheVariants.{ChildrenKnown, BecomeRoot}
use Rattle.upload.specs.declared.step.LinkKind.{LinkKind}
use Rattle.upload.specs.declared.step.LinkKind.TheVariants.{AddChild, Acknowledge, Resolve}
use Rattle.first.specs.Least.{rank}

-- the step of a kind at a node
abbrev pub at : NodeKind → ℕ → Step
at kind x = node_step (node_number kind) x

pub at_kind : (kind : NodeKind) (x : ℕ) → kind_of (at kind x) ≡ node_number kind
at_kind ChildrenKnown x = refl
at_kind BecomeRoot x = refl

pub at_rank : (t : Table) (kind : NodeKind) (x : ℕ) → rank t (at kind x) ≡ three (node_number kind) x 255
at_rank t ChildrenKnown x = refl
at_rank t BecomeRoot x = refl

pub at_inside : (t : Table) (kind : NodeKind) (x : ℕ) → InTable t (at kind x) → x < t.nodes
at_inside t ChildrenKnown x h = h
at_inside t BecomeRoot x h = h

-- a step of that kind is one at some node
pub at_all : (P : Step → Type 0) (kind : NodeKind) → ((x : ℕ) → P (at kind x)) → (y : Step) → kind_of y ≡ node_number kind → P y
at_all P kind h y e = go y (subst (λ k. of_node k ≡ true) (sym e) (of_its kind)) (subst (λ k. (x : ℕ) → P (node_step k x)) (sym e) h)
  where
    of_its : (kind : NodeKind) → of_node (node_number kind) ≡ true
    of_its ChildrenKnown = refl
    of_its BecomeRoot = refl

    go : (y : Step) → of_node (kind_of y) ≡ true → ((x : ℕ) → P (node_step (kind_of y) x)) → P y
    go (children_known x) f g = g x
    go (add_child i b) f g = absurd cc
    go (acknowledge i b) f g = absurd cc
    go (resolve i b) f g = absurd cc
    go (become_root x) f g = g x

-- the step of a kind on a direction
abbrev pub on : LinkKind → ℕ → Bool → Step
on kind i b = link_step (link_number kind) i b

pub on_kind : (kind : LinkKind) (i : ℕ) (b : Bool) → kind_of (on kind i b) ≡ link_number kind
on_kind AddChild i b = refl
on_kind Acknowledge i b = refl
on_kind Resolve i b = refl

pub on_rank : (t : Table) (kind : LinkKind) (i : ℕ) (b : Bool) → rank t (on kind i b) ≡ three (link_number kind) (source t i b) (target t i b)
on_rank t AddChild i b = refl
on_rank t Acknowledge i b = refl
on_rank t Resolve i b = refl

pub on_inside : (t : Table) (kind : LinkKind) (i : ℕ) (b : Bool) → InTable t (on kind i b) → i < t.links
on_inside t AddChild i b h = h
on_inside t Acknowledge i b h = h
on_inside t Resolve i b h = h

-- a step of that kind is one on some direction
pub on_all : (P : Step → Type 0) (kind : LinkKind) → ((i : ℕ) (b : Bool) → P (on kind i b)) → (y : Step) → kind_of y ≡ link_number kind → P y
on_all P kind h y e = go y (subst (λ k. of_link k ≡ true) (sym e) (of_its kind)) (subst (λ k. (i : ℕ) (b : Bool) → P (link_step k i b)) (sym e) h)
  where
    of_its : (kind : LinkKind) → of_link (link_number kind) ≡ true
    of_its AddChild = refl
    of_its Acknowledge = refl
    of_its Resolve = refl

    go : (y : Step) → of_link (kind_of y) ≡ true → ((i : ℕ) (b : Bool) → P (link_step (kind_of y) i b)) → P y
    go (children_known x) f g = absurd cc
    go (add_child i b) f g = g i b
    go (acknowledge i b) f g = g i b
    go (resolve i b) f g = g i b
    go (become_root x) f g = absurd cc

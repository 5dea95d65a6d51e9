-- An action that can be taken names a step that is possible; in kinds 2 to 4 it is on the direction found.
use Rattle.std.proofs.Common.{ℕ, suc, ◌<◌, Bool, true, false, cond, ◌&&◌, Ok, ◌≡◌, refl, sym, ap, ◌∙◌, arith}
use Rattle.std.proofs.Math.Dec.{ltb}
use Rattle.std.proofs.lemmas.Bool.{ltb-true}
use Rattle.counting.proofs.Booleans.{and_left, and_right}
use Rattle.paper.specs.Table.{Table}
use Rattle.paper.specs.State.{State}
use Rattle.paper.specs.Steps.{Step, possible}
use Rattle.paper.specs.Actions.{Reading, names, unread, link_between, direction_from, link_step, read_node, read_link, of_node, of_link, reading, refused_by}
use Rattle.upload.specs.Kinds.{node_number, link_number, meant}
use Rattle.upload.specs.declared.step.NodeKind.{NodeKind}
use Rattle.upload.specs.declared.step.NodeKind.TheVariants.{ChildrenKnown, BecomeRoot}
use Rattle.upload.specs.declared.step.LinkKind.{LinkKind}
use Rattle.upload.specs.declared.step.LinkKind.TheVariants.{AddChild, Acknowledge, Resolve}
use Rattle.upload.specs.declared.step.Step as step
use Rattle.automaton.specs.Tried.{TriedAs}

-- an action of kinds 2 to 4 that can be taken, on direction (i, b)
pub record OnLink (t : Table) (s : State) (kind x y i : ℕ) (b : Bool) : Type 0 where
  pub kinds : of_link kind ≡ true
  pub from : x < t.nodes
  pub to : y < t.nodes
  pub link : i < t.links
  pub between : i ≡ link_between t x y
  pub way : b ≡ direction_from t i x
  pub read : reading t kind x y ≡ names (link_step kind i b)
  pub may : possible t s (link_step kind i b) ≡ true

module _ (t : Table) (s : State) where
  picked : (g : Bool) (a : Reading) (k : ℕ) → refused_by t s (cond g a (unread (suc k))) ≡ 0 → (g ≡ true) × (refused_by t s a ≡ 0)
  picked true a k h = (refl, h)
  picked false a k h = absurd (omega arith)

  allowed : (x : Step) → refused_by t s (names x) ≡ 0 → possible t s x ≡ true
  allowed x = go (possible t s x)
    where
      go : (p : Bool) → ◌≡◌ {A = ℕ} (cond p 0 11) 0 → p ≡ true
      go true h = refl
      go false h = absurd (omega arith)

  pub taken_link : (kind x y : ℕ) →
      of_node kind ≡ false →
      refused_by t s (reading t kind x y) ≡ 0 →
      OnLink t s kind x y (link_between t x y) (direction_from t (link_between t x y) x)
  unfolding reading
  taken_link kind x y e h =
      let i = link_between t x y in
      let step = link_step kind i (direction_from t i x) in
      let way : reading t kind x y ≡ cond (of_link kind) (read_link t kind x y) (unread 9) = rw e in
      let kinds = picked (of_link kind) (read_link t kind x y) 8 (sym (ap (refused_by t s) way) ∙ h) in
      let inner = cond (ltb i t.links) (names step) (unread 10) in
      let nodes = picked (ltb x t.nodes && ltb y t.nodes) inner 8 kinds.1 in
      let found = picked (ltb i t.links) (names step) 9 nodes.1 in
      record {
        kinds = kinds.0;
        from = ltb-true x t.nodes (and_left (ltb x t.nodes) (ltb y t.nodes) nodes.0);
        to = ltb-true y t.nodes (and_right (ltb x t.nodes) (ltb y t.nodes) nodes.0);
        link = ltb-true i t.links found.0;
        between = refl;
        way = refl;
        read =
            way
            ∙ ap (λ (g : Bool). cond g (read_link t kind x y) (unread 9)) kinds.0
            ∙ ap (λ (g : Bool). cond g inner (unread 9)) nodes.0
            ∙ ap (λ (g : Bool). cond g (names step) (unread 10)) found.0;
        may = allowed step found.1;
      }

-- an action of a kind at a node, and one of a kind on a direction
module _ (t : Table) (x y : ℕ) where
  pub reading_at_node : (k : NodeKind) → reading t (node_number k) x y ≡ read_node t (node_number k) x y
  unfolding reading
  reading_at_node ChildrenKnown = refl
  reading_at_node BecomeRoot = refl

  pub reading_on_link : (k : LinkKind) → reading t (link_number k) x y ≡ read_link t (link_number k) x y
  unfolding reading
  reading_on_link AddChild = refl
  reading_on_link Acknowledge = refl
  reading_on_link Resolve = refl

-- what a caller learns where an action can be taken
pub tried_may : {t : Table} {s : State} {read : Reading} {x : step.Step} → TriedAs t s read (Ok x) → possible t s (meant x) ≡ true
tried_may {t} {s} {x} tried = allowed t s (meant x) (ap (refused_by t s) tried.reads ∙ sym tried.number)

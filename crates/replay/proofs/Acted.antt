-- What trying one action on a lent image comes to: where the action can be taken, and where it is refused.
use Prim.Native.Nat.{ℕ, ◌≤◌, ◌<◌}
use mathlib.Core.Bool.{Bool, true, false, cond, ◌&&◌}
use mathlib.Core.Path.{◌≡◌, refl, sym, ap, subst, ◌∙◌}
use mathlib.Core.Logic.{◌⊎◌, inl, inr}
use mathlib.Core.List.{List}
use native.Mathlib.Omega.{arith}
use lib.Dec.{eqb, leb, ltb}
use borrow.Author.Tests.{eq-eqb, ne_eqb, lt-leb}
use Rattle.std.specs.Prelude.{Result, Ok, Err}
use Rattle.paper.specs.Table.{Table, table_of}
use Rattle.paper.specs.State.{State}
use Rattle.paper.specs.Steps.{Step, possible, effect}
use Rattle.paper.specs.Image.{state_of, image_of, sound}
use Rattle.paper.specs.Actions.{Reading, names, unread, of_node, of_link, node_step, link_step, reading, read_node, read_link, link_between, direction_from, refused_by, state_after}
use Rattle.upload.specs.declared.step.Step as step
use Rattle.upload.specs.declared.step.NodeKind.{NodeKind}
use Rattle.upload.specs.declared.step.LinkKind.{LinkKind}
use Rattle.upload.specs.Kinds.{node_number, link_number, meant}
use Rattle.marks.specs.Lent.{Lent}
use Rattle.image.specs.Taken.{Holds}
use Rattle.image.proofs.Kept.{step_holds}
use Rattle.automaton.specs.Tried.{TriedAs, refused_number}
use Rattle.automaton.specs.declared.Refused.{Refused}
use Rattle.automaton.specs.declared.Refused.TheVariants.{Unread, NoLink, Impossible}
use Rattle.automaton.proofs.Taken.{reading_at_node, reading_on_link, tried_may}
use Rattle.replay.specs.Taken.{next_state, Taken}

-- no refusal has number 0
pub refused_some : (r : Refused) → refused_number r ≡ 0 → ⊥
refused_some Unread e = omega arith
refused_some NoLink e = omega arith
refused_some (Impossible x) e = omega arith

-- what an action comes to, as it is read by its kind
module _ (t : Table) (s : State) (kind x y : ℕ) {r : Result step.Step Refused} where
  pub by_node : (k : NodeKind) → node_number k ≡ kind → TriedAs t s (read_node t (node_number k) x y) r → TriedAs t s (reading t kind x y) r
  by_node k e tried =
      subst (λ (w : Reading). TriedAs t s w r) (sym (reading_at_node t x y k) ∙ ap (λ (n : ℕ). reading t n x y) e) tried

  pub by_link : (k : LinkKind) → link_number k ≡ kind → TriedAs t s (read_link t (link_number k) x y) r → TriedAs t s (reading t kind x y) r
  by_link k e tried =
      subst (λ (w : Reading). TriedAs t s w r) (sym (reading_on_link t x y k) ∙ ap (λ (n : ℕ). reading t n x y) e) tried

no_node : (kind : ℕ) → (kind < 1) ⊎ (5 < kind) → of_node kind ≡ false
no_node kind (inl h) = rw (ne_eqb kind 1 (λ e. omega arith), ne_eqb kind 5 (λ e. omega arith))
no_node kind (inr h) = rw (ne_eqb kind 1 (λ e. omega arith), ne_eqb kind 5 (λ e. omega arith))

no_link : (kind : ℕ) → (kind < 1) ⊎ (5 < kind) → of_link kind ≡ false
no_link kind (inl h) = rw (lt-leb 2 kind (omega arith))
no_link kind (inr h) = rw (lt-leb kind 4 (omega arith)) (and_false (leb 2 kind))
  where
    and_false : (b : Bool) → (b && false) ≡ false
    and_false true = refl
    and_false false = refl

-- a number that is no kind's
pub by_none : (t : Table) (s : State) (kind x y : ℕ) → (kind < 1) ⊎ (5 < kind) → TriedAs t s (reading t kind x y) (Err Unread)
unfolding reading
by_none t s kind x y h = rw (no_node kind h, no_link kind h) (record { number = refl; reads = refl })

-- the state after an action
module _ (upload : List ℕ) (s : State) (kind x y : ℕ) where
  pub next_taken : refused_by (table_of upload) s (reading (table_of upload) kind x y) ≡ 0 → next_state upload s kind x y ≡ state_after (table_of upload) s (reading (table_of upload) kind x y)
  next_taken h = rw (eq-eqb (refused_by (table_of upload) s (reading (table_of upload) kind x y)) 0 h)

  pub next_refused : (refused_by (table_of upload) s (reading (table_of upload) kind x y) ≡ 0 → ⊥) → next_state upload s kind x y ≡ s
  next_refused h = rw (ne_eqb (refused_by (table_of upload) s (reading (table_of upload) kind x y)) 0 h)

-- what is answered and left
module _ (upload image : List ℕ) (kind x y : ℕ) (lent : Lent upload image) (good : sound (table_of upload) image ≡ true) where
  pub act_taken : (l : List ℕ) (z : step.Step) → TriedAs (table_of upload) (state_of (table_of upload) image) (reading (table_of upload) kind x y) (Ok z) → l ≡ image_of (table_of upload) (effect (table_of upload) (state_of (table_of upload) image) (meant z)) → Taken upload image kind x y 0 l
  act_taken l z tried e =
      let t = table_of upload in
      let s = state_of t image in
      let after : effect t s (meant z) ≡ state_after t s (reading t kind x y) = ap (state_after t s) tried.reads in
      record {
        refused = tried.number;
        left = e ∙ ap (image_of t) after;
        holds = subst (Holds upload l) (after ∙ sym (next_taken upload s kind x y (sym tried.number))) (step_holds upload image l (meant z) lent good (tried_may tried) e);
      }

  pub act_refused : (r : Refused) → TriedAs (table_of upload) (state_of (table_of upload) image) (reading (table_of upload) kind x y) (Err r) → Taken upload image kind x y (refused_number r) image
  act_refused r tried =
      let t = table_of upload in
      let s = state_of t image in
      record {
        refused = tried.number;
        left = sym (ap (λ (b : Bool). cond b (image_of t (state_after t s (reading t kind x y))) image) (ne_eqb (refused_number r) 0 (refused_some r)));
        holds = record { lent = lent; is_sound = good; shows = sym (next_refused upload s kind x y (λ q. refused_some r (tried.number ∙ q))) };
      }

-- an action is taken, or refused by 9, 10 or 11
abbrev pub OfAction : ℕ → Type 0
OfAction k = (k ≡ 0) ⊎ ((9 ≤ k) × (k ≤ 11))

module _ (t : Table) (s : State) where
  choice : (g : Bool) (a b : Reading) → OfAction (refused_by t s a) → OfAction (refused_by t s b) → OfAction (refused_by t s (cond g a b))
  choice true a b p q = p
  choice false a b p q = q

  unread_between : (k : ℕ) → 9 ≤ k → k ≤ 11 → OfAction (refused_by t s (unread k))
  unread_between k low high = inr (low, high)

  named_step : (z : Step) → OfAction (refused_by t s (names z))
  named_step z = go (possible t s z)
    where
      go : (b : Bool) → OfAction (cond b 0 11)
      go true = inl refl
      go false = inr (omega arith, omega arith)

  pub of_action : (kind x y : ℕ) → OfAction (refused_by t s (reading t kind x y))
  unfolding reading
  of_action kind x y =
      let i = link_between t x y in
      let nine : OfAction (refused_by t s (unread 9)) = unread_between 9 (omega arith) (omega arith) in
      let ten : OfAction (refused_by t s (unread 10)) = unread_between 10 (omega arith) (omega arith) in
      let link = link_step kind i (direction_from t i x) in
      let found = choice (ltb i t.links) (names link) (unread 10) (named_step link) ten in
      let node = choice (ltb x t.nodes && eqb y 255) (names (node_step kind x)) (unread 9) (named_step (node_step kind x)) nine in
      let nodes = choice (ltb x t.nodes && ltb y t.nodes) (cond (ltb i t.links) (names link) (unread 10)) (unread 9) found nine in
      choice (of_node kind) (read_node t kind x y) (cond (of_link kind) (read_link t kind x y) (unread 9)) node
      (choice (of_link kind) (read_link t kind x y) (unread 9) nodes nine)

-- One action tried for 9, 10 and 11: its refusal in plain terms.
use Prim.Native.Nat.{ℕ, ◌≤◌, ◌<◌}
use mathlib.Core.Bool.{Bool, true, false, cond, ◌&&◌, false≢true}
use mathlib.Core.Path.{◌≡◌, refl, sym, ap, subst, ◌∙◌}
use mathlib.Core.Logic.{◌⊎◌, inl, inr, ⊎_elim}
use native.Mathlib.Omega.{arith}
use native.Mathlib.Decide.{dec_lt, ℕ_discrete}
use lib.Dec.{ltb, leb, eqb}
use borrow.Author.Tests.{eqb-true, eqb-false, ltb-true, ltb-false, lt-ltb, le-ltb, leb-true, le-leb, lt-leb, eq-eqb, ne_eqb}
use Rattle.paper.specs.Table.{Table, source, target, EndsBelow, NoSelfLink}
use Rattle.paper.specs.State.{State}
use Rattle.paper.specs.Steps.{Step, children_known, add_child, acknowledge, resolve, become_root, possible}
use Rattle.paper.specs.Actions.{Reading, names, unread, joins, link_between, direction_from, node_step, link_step, read_node, read_link, of_node, of_link, reading, refused_by, state_after}
use Rattle.paper.specs.Meanings.{NoRepeat, SoundMarks}
use Rattle.std.proofs.lemmas.Bool.{and_from, or_cases, or_left, or_right, cases_Bool}
use Rattle.counting.proofs.Booleans.{and_left, and_right, clash}
use Rattle.counting.proofs.Tests.{some_none, least_none}
use Rattle.paper.proofs.Changes
use Rattle.paper.proofs.Readings.{Read, at_node, for_link, not_read, read, read_once, read_step}
use Rattle.replay.specs.Promises.{Possible}
use Rattle.replay.proofs.Promises.{possible_plainly}
use Rattle.demands.specs.ExactlyWhen.{Unreadable, kind_under, kind_over, no_first, no_second, second_named, NoLink, InTable, Names, ActionRefused, unreadable, no_link, not_possible, ActionTaken}
use Rattle.demands.proofs.Least.{least_below}

-- a reading, with the ground of its refusal
data Cause (t : Table) (kind x y : ℕ) : Reading → Type 0 where
  named : (step : Step) → Cause t kind x y (names step)
  nine : Unreadable t kind x y → Cause t kind x y (unread 9)
  ten : NoLink t kind x y → Cause t kind x y (unread 10)

cause_node : (t : Table) (kind x y : ℕ) → (kind ≡ 1) ⊎ (kind ≡ 5) → Cause t kind x y (read_node t kind x y)
cause_node t kind x y node = go (ltb x t.nodes) refl (eqb y 255) refl
  where
    go : (a : Bool) → ltb x t.nodes ≡ a → (b : Bool) → eqb y 255 ≡ b → Cause t kind x y (cond (a && b) (names (node_step kind x)) (unread 9))
    go true e true f = named (node_step kind x)
    go true e false f = nine (second_named node (eqb-false y 255 f))
    go false e b f = nine (no_first (ltb-false x t.nodes e))

-- a link that joins x and y, in plain terms
joins_from : (t : Table) (x y i : ℕ) (b : Bool) → source t i b ≡ x → target t i b ≡ y → joins t x y i ≡ true
joins_from t x y i false e f = or_left _ _ (and_from _ _ (eq-eqb _ _ e) (eq-eqb _ _ f))
joins_from t x y i true e f = or_right (eqb (t.end i false) x && eqb (t.end i true) y) _ (and_from _ _ (eq-eqb _ _ f) (eq-eqb _ _ e))

joins_either : (t : Table) (x y i : ℕ) → joins t x y i ≡ true → (b : Bool) × (source t i b ≡ x) × (target t i b ≡ y)
joins_either t x y i h = ⊎_elim one other (or_cases (eqb (t.end i false) x && eqb (t.end i true) y) _ h)
  where
    one : eqb (t.end i false) x && eqb (t.end i true) y ≡ true → (b : Bool) × (source t i b ≡ x) × (target t i b ≡ y)
    one e = (false, eqb-true _ _ (and_left (eqb (t.end i false) x) _ e), eqb-true _ _ (and_right (eqb (t.end i false) x) _ e))

    other : eqb (t.end i false) y && eqb (t.end i true) x ≡ true → (b : Bool) × (source t i b ≡ x) × (target t i b ≡ y)
    other e = (true, eqb-true _ _ (and_right (eqb (t.end i false) y) _ e), eqb-true _ _ (and_left (eqb (t.end i false) y) _ e))

cause_link : (t : Table) (kind x y : ℕ) → 2 ≤ kind → kind ≤ 4 → Cause t kind x y (read_link t kind x y)
cause_link t kind x y low high = go (ltb x t.nodes) refl (ltb y t.nodes) refl (ltb (link_between t x y) t.links) refl
  where
    alone : ltb (link_between t x y) t.links ≡ false → (i : ℕ) (b : Bool) → i < t.links → source t i b ≡ x → target t i b ≡ y → ⊥
    alone g i b l e f =
        let found = least_below t.links (joins t x y) t.links i l (joins_from t x y i b e f) in
        let past = ltb-false (link_between t x y) t.links g in
        omega arith

    go : (a : Bool) → ltb x t.nodes ≡ a → (b : Bool) → ltb y t.nodes ≡ b → (c : Bool) → ltb (link_between t x y) t.links ≡ c → Cause t kind x y (cond (a && b) (cond c (names (link_step kind (link_between t x y) (direction_from t (link_between t x y) x))) (unread 10)) (unread 9))
    go true e true f true g = named _
    go true e true f false g = ten (record { low = low; high = high; first = ltb-true _ _ e; second = ltb-true _ _ f; apart = alone g })
    go true e false f c g = nine (no_second low high (ltb-false _ _ f))
    go false e b f c g = nine (no_first (ltb-false _ _ e))

-- a kind of none of the five
no_kind : (t : Table) (kind x y : ℕ) → of_node kind ≡ false → of_link kind ≡ false → Unreadable t kind x y
no_kind t kind x y e f = go (dec_lt kind 1) (dec_lt 5 kind) (ℕ_discrete kind 1) (ℕ_discrete kind 5)
  where
    go : Dec (kind < 1) → Dec (5 < kind) → Dec (kind ≡ 1) → Dec (kind ≡ 5) → Unreadable t kind x y
    go (yes h) b c d = kind_under h
    go (no a) (yes h) c d = kind_over h
    go (no a) (no b) (yes h) d = absurd (false≢true (sym e ∙ or_left _ (eqb kind 5) (eq-eqb _ _ h)))
    go (no a) (no b) (no c) (yes h) = absurd (false≢true (sym e ∙ or_right (eqb kind 1) _ (eq-eqb _ _ h)))
    go (no a) (no b) (no c) (no d) = absurd (false≢true (sym f ∙ and_from _ _ (le-leb 2 kind (omega arith)) (le-leb kind 4 (omega arith))))

cause : (t : Table) (kind x y : ℕ) → Cause t kind x y (reading t kind x y)
unfolding reading
cause t kind x y = go (of_node kind) refl (of_link kind) refl
  where
    go : (a : Bool) → of_node kind ≡ a → (b : Bool) → of_link kind ≡ b → Cause t kind x y (cond a (read_node t kind x y) (cond b (read_link t kind x y) (unread 9)))
    go true e b f = cause_node t kind x y (⊎_elim (λ g. inl (eqb-true _ _ g)) (λ g. inr (eqb-true _ _ g)) (or_cases (eqb kind 1) _ e))
    go false e true f = cause_link t kind x y (leb-true 2 kind (and_left (leb 2 kind) _ f)) (leb-true kind 4 (and_right (leb 2 kind) _ f))
    go false e false f = nine (no_kind t kind x y e f)

-- kinds 2 to 4 are a link's, kinds 1 and 5 a node's
link_kind : (kind : ℕ) → 2 ≤ kind → kind ≤ 4 → (of_node kind ≡ false) × (of_link kind ≡ true)
link_kind kind low high =
    (rw (ne_eqb kind 1 (omega arith), ne_eqb kind 5 (omega arith)), and_from _ _ (le-leb 2 kind low) (le-leb kind 4 high))

node_kind : (kind : ℕ) → (kind ≡ 1) ⊎ (kind ≡ 5) → of_node kind ≡ true
node_kind kind (inl e) = or_left _ (eqb kind 5) (eq-eqb kind 1 e)
node_kind kind (inr e) = or_right (eqb kind 1) _ (eq-eqb kind 5 e)

-- 9 is given on each of its grounds
reads_nine : (t : Table) (kind x y : ℕ) → Unreadable t kind x y → reading t kind x y ≡ unread 9
unfolding reading
reads_nine t kind x y (kind_under h) = rw (ne_eqb kind 1 (omega arith), ne_eqb kind 5 (omega arith), lt-leb 2 kind (omega arith))
reads_nine t kind x y (kind_over h) = rw (ne_eqb kind 1 (omega arith), ne_eqb kind 5 (omega arith), lt-leb kind 4 (omega arith)) (go (leb 2 kind))
  where
    go : (b : Bool) → cond (b && false) (read_link t kind x y) (unread 9) ≡ unread 9
    go true = refl
    go false = refl
reads_nine t kind x y (no_first h) = rw (le-ltb x t.nodes h) (go (of_node kind) (of_link kind))
  where
    go : (a b : Bool) → cond a (unread 9) (cond b (unread 9) (unread 9)) ≡ unread 9
    go true b = refl
    go false true = refl
    go false false = refl
reads_nine t kind x y (no_second low high h) =
    rw ((link_kind kind low high).0, (link_kind kind low high).1, le-ltb y t.nodes h) (go (ltb x t.nodes))
  where
    i : ℕ
    i = link_between t x y

    go : (a : Bool) → cond (a && false) (cond (ltb i t.links) (names (link_step kind i (direction_from t i x))) (unread 10)) (unread 9) ≡ unread 9
    go true = refl
    go false = refl
reads_nine t kind x y (second_named node h) = rw (node_kind kind node, ne_eqb y 255 h) (go (ltb x t.nodes))
  where
    go : (a : Bool) → cond (a && false) (names (node_step kind x)) (unread 9) ≡ unread 9
    go true = refl
    go false = refl

-- 10 on its ground
reads_ten : (t : Table) (kind x y : ℕ) → NoLink t kind x y → reading t kind x y ≡ unread 10
unfolding reading
reads_ten t kind x y h =
    rw ((link_kind kind h.low h.high).0, (link_kind kind h.low h.high).1, lt-ltb x t.nodes h.first, lt-ltb y t.nodes h.second, nowhere, le-ltb t.links t.links (omega arith))
  where
    parted : (i : ℕ) → i < t.links → joins t x y i ≡ false
    parted i l = ⊎_elim (λ e. let (b, p, q) = joins_either t x y i e in absurd (h.apart i b l p q)) (λ e. e) (cases_Bool (joins t x y i))

    nowhere : link_between t x y ≡ t.links
    nowhere = least_none t.links (joins t x y) t.links (some_none t.links (joins t x y) parted)

-- a step that is read is one of the table's
abbrev Within : Table → Reading → Type 0
Within t (names step) = InTable t step
Within t (unread number) = Unit {0}

within : (t : Table) (kind x y : ℕ) {r : Reading} → Read t kind x y r → Within t r
within t kind x y (at_node node h f) = go (eqb kind 1)
  where
    go : (b : Bool) → InTable t (cond b (children_known x) (become_root x))
    go true = h
    go false = h
within t kind x y (for_link low high h g i l e) = go (eqb kind 2) (eqb kind 3)
  where
    go : (a b : Bool) → InTable t (cond a (add_child i (direction_from t i x)) (cond b (acknowledge i (direction_from t i x)) (resolve i (direction_from t i x))))
    go true b = l
    go false true = l
    go false false = l
within t kind x y (not_read number) = tt

in_table : (t : Table) (step : Step) → InTable t step → Changes.InTable t step
in_table t (children_known x) h = h
in_table t (add_child i b) h = h
in_table t (acknowledge i b) h = h
in_table t (resolve i b) h = h
in_table t (become_root x) h = h

-- 9 to 11
pub action_number : {t : Table} {s : State} {kind x y number : ℕ} → ActionRefused t s kind x y number → (9 ≤ number) × (number ≤ 11)
action_number (unreadable h) = (omega arith, omega arith)
action_number (no_link h) = (omega arith, omega arith)
action_number (not_possible step h e) = (omega arith, omega arith)

module _ (t : Table) (ends : EndsBelow t) (loops : NoSelfLink t) (repeats : NoRepeat t) (kind x y : ℕ) where
  reads_step : (step : Step) → Names t kind x y step → reading t kind x y ≡ names step
  reads_step step h =
      rw (h.kind_same, h.first_same, h.second_same) (read_step t ends loops repeats step (in_table t step h.there))

  step_named : (step : Step) → reading t kind x y ≡ names step → Names t kind x y step
  step_named step e =
      let bytes = read_once t loops step kind x y e in
      record {
        there = subst (Within t) e (within t kind x y (read t kind x y));
        kind_same = bytes.0;
        first_same = bytes.1;
        second_same = bytes.2;
      }

  -- an action that is taken leads to the state behind it
  pub action_leads : (s : State) {next : State} → ActionTaken t s kind x y next → state_after t s (reading t kind x y) ≡ next
  action_leads s h = ap (state_after t s) (reads_step h.step h.named) ∙ sym h.leads

  module _ (s : State) (marks : SoundMarks t s) where
    -- a step that isn't possible, as tested
    fails : (step : Step) → (Possible t s step → ⊥) → possible t s step ≡ false
    fails step h = ⊎_elim (λ e. absurd (h ((possible_plainly t s marks step).0 e))) (λ e. e) (cases_Bool (possible t s step))

    -- a ground gives its number
    pub action_given : {number : ℕ} → ActionRefused t s kind x y number → refused_by t s (reading t kind x y) ≡ number
    action_given (unreadable h) = ap (refused_by t s) (reads_nine t kind x y h)
    action_given (no_link h) = ap (refused_by t s) (reads_ten t kind x y h)
    action_given (not_possible step h e) = ap (refused_by t s) (reads_step step h) ∙ ap (λ b. cond b 0 11) (fails step e)

    -- an action that is taken is refused by none
    pub action_passes : {next : State} → ActionTaken t s kind x y next → refused_by t s (reading t kind x y) ≡ 0
    action_passes h = ap (refused_by t s) (reads_step h.step h.named) ∙ ap (λ b. cond b 0 11) ((possible_plainly t s marks h.step).1 h.can)

    -- the action is taken, or there is a ground
    pub action_either : ActionTaken t s kind x y (state_after t s (reading t kind x y)) ⊎ ((number : ℕ) × ActionRefused t s kind x y number)
    action_either = go (reading t kind x y) refl (cause t kind x y)
      where
        can : (step : Step) → reading t kind x y ≡ names step → (possible t s step ≡ true) ⊎ (possible t s step ≡ false) → ActionTaken t s kind x y (state_after t s (reading t kind x y)) ⊎ ((number : ℕ) × ActionRefused t s kind x y number)
        can step e (inl p) = inl (record { step = step; named = step_named step e; can = (possible_plainly t s marks step).0 p; leads = ap (state_after t s) e })
        can step e (inr p) = inr (11, not_possible step (step_named step e) (λ q. clash ((possible_plainly t s marks step).1 q) p))

        go : (r : Reading) → reading t kind x y ≡ r → Cause t kind x y r → ActionTaken t s kind x y (state_after t s (reading t kind x y)) ⊎ ((number : ℕ) × ActionRefused t s kind x y number)
        go r e (named step) = can step e (cases_Bool (possible t s step))
        go r e (nine h) = inr (9, unreadable h)
        go r e (ten h) = inr (10, no_link h)

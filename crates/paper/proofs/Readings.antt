-- How three bytes are read: the cases, and that a step's three bytes, and no others, are read as that step.
use Prim.Native.Nat.{ℕ, suc, ◌<◌, ◌≤◌}
use mathlib.Core.Bool.{Bool, true, false, not, cond, ◌&&◌, false≢true, not-not}
use mathlib.Core.Path.{◌≡◌, refl, sym, ap, subst, subst⁻¹, ◌∙◌}
use mathlib.Core.Logic.{◌⊎◌, inl, inr, ⊎_elim}
use lib.Dec.{eqb, ltb, leb}
use borrow.Author.Tests.{eqb-true, ne_eqb, ltb-true, lt-ltb, leb-true}
use native.Mathlib.Omega.{arith}
use native.Mathlib.Decide.{ℕ_discrete}
use Rattle.std.proofs.lemmas.Bool.{and_from, or_left, or_right, or_cases}
use Rattle.counting.proofs.Booleans.{eqb_same, and_left, and_right, clash}
use Rattle.counting.proofs.Tests.{least_only, least_passes}
use Rattle.paper.specs.Table.{Table, source, target, EndsBelow, NoSelfLink}
use Rattle.paper.specs.Steps.{Step, children_known, add_child, acknowledge, resolve, become_root}
use Rattle.paper.specs.Actions.{Reading, names, unread, joins, link_between, direction_from, node_step, link_step, read_node, read_link, of_node, of_link, reading}
use Rattle.paper.specs.Meanings.{NoRepeat, kind_of, first_of, second_of}
use Rattle.paper.proofs.Changes.{InTable}

-- the cases of a reading: a node's step, a link's step, or a number of refusal that isn't 0
pub data Read (t : Table) (kind x y : ℕ) : Reading → Type 0 where
  at_node : (kind ≡ 1) ⊎ (kind ≡ 5) → x < t.nodes → y ≡ 255 → Read t kind x y (names (node_step kind x))
  for_link : 2 ≤ kind → kind ≤ 4 → x < t.nodes → y < t.nodes → (i : ℕ) → i < t.links → joins t x y i ≡ true → Read t kind x y (names (link_step kind i (direction_from t i x)))
  not_read : (number : ℕ) → Read t kind x y (unread (suc number))

read_node_is : (t : Table) (kind x y : ℕ) → (kind ≡ 1) ⊎ (kind ≡ 5) → Read t kind x y (read_node t kind x y)
read_node_is t kind x y node = go (ltb x t.nodes && eqb y 255) refl
  where
    go : (c : Bool) → ltb x t.nodes && eqb y 255 ≡ c → Read t kind x y (cond c (names (node_step kind x)) (unread 9))
    go true e = at_node node (ltb-true _ _ (and_left (ltb x t.nodes) _ e)) (eqb-true _ _ (and_right (ltb x t.nodes) _ e))
    go false e = not_read 8

read_link_is : (t : Table) (kind x y : ℕ) → 2 ≤ kind → kind ≤ 4 → Read t kind x y (read_link t kind x y)
read_link_is t kind x y low high = go (ltb x t.nodes && ltb y t.nodes) refl (ltb i t.links) refl
  where
    i : ℕ
    i = link_between t x y

    joined : i < t.links → joins t x y i ≡ true
    joined h = ⊎_elim (λ e. e) (λ e. absurd (omega arith)) (least_passes t.links (joins t x y) t.links)

    go : (c : Bool) → ltb x t.nodes && ltb y t.nodes ≡ c → (d : Bool) → ltb i t.links ≡ d → Read t kind x y (cond c (cond d (names (link_step kind i (direction_from t i x))) (unread 10)) (unread 9))
    go true e true f =
        let h = ltb-true _ _ f in
        for_link low high (ltb-true _ _ (and_left (ltb x t.nodes) _ e)) (ltb-true _ _ (and_right (ltb x t.nodes) _ e)) i h (joined h)
    go true e false f = not_read 9
    go false e d f = not_read 8

pub read : (t : Table) (kind x y : ℕ) → Read t kind x y (reading t kind x y)
unfolding reading
read t kind x y = go (of_node kind) refl (of_link kind) refl
  where
    go : (c : Bool) → of_node kind ≡ c → (d : Bool) → of_link kind ≡ d → Read t kind x y (cond c (read_node t kind x y) (cond d (read_link t kind x y) (unread 9)))
    go true e d f = read_node_is t kind x y (⊎_elim (λ g. inl (eqb-true _ _ g)) (λ g. inr (eqb-true _ _ g)) (or_cases (eqb kind 1) _ e))
    go false e true f = read_link_is t kind x y (leb-true 2 kind (and_left (leb 2 kind) _ f)) (leb-true kind 4 (and_right (leb 2 kind) _ f))
    go false e false f = not_read 8

-- a link that joins x and y, without a node joined to itself: x is where the direction from x comes from, y where it goes to
from_first : (t : Table) → NoSelfLink t → (x y i : ℕ) → i < t.links → joins t x y i ≡ true → (x ≡ source t i (direction_from t i x)) × (y ≡ target t i (direction_from t i x))
from_first t loops x y i h e = go (eqb (t.end i false) x) refl (or_cases (eqb (t.end i false) x && eqb (t.end i true) y) _ e)
  where
    go : (c : Bool) → eqb (t.end i false) x ≡ c → (eqb (t.end i false) x && eqb (t.end i true) y ≡ true) ⊎ (eqb (t.end i false) y && eqb (t.end i true) x ≡ true) → (x ≡ t.end i (not c)) × (y ≡ t.end i (not (not c)))
    go true f (inl g) = (sym (eqb-true _ _ f), sym (eqb-true _ _ (and_right (eqb (t.end i false) x) _ g)))
    go true f (inr g) = absurd (loops i h (eqb-true _ _ f ∙ sym (eqb-true _ _ (and_right (eqb (t.end i false) y) _ g))))
    go false f (inl g) = clash (and_left (eqb (t.end i false) x) _ g) f
    go false f (inr g) = (sym (eqb-true _ _ (and_right (eqb (t.end i false) y) _ g)), sym (eqb-true _ _ (and_left (eqb (t.end i false) y) _ g)))

-- three bytes are a step's
abbrev pub Bytes : Table → ℕ → ℕ → ℕ → Step → Type 0
Bytes t kind a b x = (kind ≡ kind_of x) × (a ≡ first_of t x) × (b ≡ second_of t x)

node_step_bytes : (t : Table) (kind a b : ℕ) → (kind ≡ 1) ⊎ (kind ≡ 5) → b ≡ 255 → Bytes t kind a b (node_step kind a)
node_step_bytes t kind a b (inl e) h = subst⁻¹ (λ k. Bytes t k a b (node_step k a)) e (refl, refl, h)
node_step_bytes t kind a b (inr e) h = subst⁻¹ (λ k. Bytes t k a b (node_step k a)) e (refl, refl, h)

-- kinds 2, 3, 4
link_kinds : (P : ℕ → Type 0) → P 2 → P 3 → P 4 → (kind : ℕ) → 2 ≤ kind → kind ≤ 4 → P kind
link_kinds P p q r kind low high = go (ℕ_discrete kind 2) (ℕ_discrete kind 3)
  where
    go : Dec (kind ≡ 2) → Dec (kind ≡ 3) → P kind
    go (yes e) d = subst⁻¹ P e p
    go (no e) (yes f) = subst⁻¹ P f q
    go (no e) (no f) = let g : kind ≡ 4 = omega arith in subst⁻¹ P g r

link_step_bytes : (t : Table) (a b i : ℕ) (c : Bool) → a ≡ source t i c → b ≡ target t i c → (kind : ℕ) → 2 ≤ kind → kind ≤ 4 → Bytes t kind a b (link_step kind i c)
link_step_bytes t a b i c e f = link_kinds (λ kind. Bytes t kind a b (link_step kind i c)) (refl, e, f) (refl, e, f) (refl, e, f)

-- the step that a reading names, or the given
abbrev named : Step → Reading → Step
named d (names x) = x
named d (unread number) = d

abbrev names_one : Reading → Bool
names_one (names x) = true
names_one (unread number) = false

-- no three bytes but a step's own are read as that step
pub read_once : (t : Table) → NoSelfLink t → (x : Step) (kind a b : ℕ) → reading t kind a b ≡ names x → Bytes t kind a b x
read_once t loops x kind a b = go (read t kind a b)
  where
    go : {r : Reading} → Read t kind a b r → r ≡ names x → Bytes t kind a b x
    go (at_node node h e) q = subst (Bytes t kind a b) (ap (named x) q) (node_step_bytes t kind a b node e)
    go (for_link low high h g i inside e) q =
        let ends = from_first t loops a b i inside e in
        subst (Bytes t kind a b) (ap (named x) q) (link_step_bytes t a b i (direction_from t i a) ends.0 ends.1 kind low high)
    go (not_read number) q = absurd (false≢true (ap names_one q))

-- a link joins the nodes of each of its directions
joins_own : (t : Table) (i : ℕ) (b : Bool) → joins t (source t i b) (target t i b) i ≡ true
joins_own t i false = or_left _ _ (and_from _ _ (eqb_same (t.end i false)) (eqb_same (t.end i true)))
joins_own t i true =
    or_right (eqb (t.end i false) (t.end i true) && eqb (t.end i true) (t.end i false)) _
    (and_from _ _ (eqb_same (t.end i false)) (eqb_same (t.end i true)))

-- a step on a link is found by the nodes of its direction
link_read_is : (t : Table) → EndsBelow t → NoSelfLink t → NoRepeat t → (i : ℕ) (b : Bool) → i < t.links → (kind : ℕ) → read_link t kind (source t i b) (target t i b) ≡ names (link_step kind i b)
link_read_is t ends loops repeats i b h kind =
    rw (lt-ltb (source t i b) t.nodes (ends i b h), lt-ltb (target t i b) t.nodes (ends i (not b) h), found, lt-ltb i t.links h, back b) refl
  where
    only : (j : ℕ) → j < t.links → joins t (source t i b) (target t i b) j ≡ true → j ≡ i
    only j g e = ⊎_elim same turned (or_cases (eqb (t.end j false) (source t i b) && eqb (t.end j true) (target t i b)) _ e)
      where
        same : eqb (t.end j false) (source t i b) && eqb (t.end j true) (target t i b) ≡ true → j ≡ i
        same f = repeats j i b g h (eqb-true _ _ (and_left (eqb (t.end j false) (source t i b)) _ f)) (eqb-true _ _ (and_right (eqb (t.end j false) (source t i b)) _ f))

        turned : eqb (t.end j false) (target t i b) && eqb (t.end j true) (source t i b) ≡ true → j ≡ i
        turned f = repeats j i (not b) g h (eqb-true _ _ (and_left (eqb (t.end j false) (target t i b)) _ f)) (eqb-true _ _ (and_right (eqb (t.end j false) (target t i b)) _ f) ∙ ap (t.end i) (sym (not-not b)))

    found : link_between t (source t i b) (target t i b) ≡ i
    found = least_only t.links (joins t (source t i b) (target t i b)) t.links i h (joins_own t i b) only

    back : (b : Bool) → direction_from t i (source t i b) ≡ b
    back false = ap not (eqb_same (t.end i false))
    back true = ap not (ne_eqb (t.end i false) (t.end i true) (loops i h))

-- a step's three bytes are read as that step
pub read_step : (t : Table) → EndsBelow t → NoSelfLink t → NoRepeat t → (x : Step) → InTable t x → reading t (kind_of x) (first_of t x) (second_of t x) ≡ names x
unfolding reading
read_step t ends loops repeats (children_known x) h = rw (lt-ltb x t.nodes h) refl
read_step t ends loops repeats (add_child i b) h = link_read_is t ends loops repeats i b h 2
read_step t ends loops repeats (acknowledge i b) h = link_read_is t ends loops repeats i b h 3
read_step t ends loops repeats (resolve i b) h = link_read_is t ends loops repeats i b h 4
read_step t ends loops repeats (become_root x) h = rw (lt-ltb x t.nodes h) refl

-- One piece: the labels worked out from the links say exactly which nodes a path of links joins.
use Prim.Native.Nat.{ℕ, zero, suc, ◌<◌, ◌≤◌}
use mathlib.Core.Bool.{Bool, true, false, not, cond, true≢false, not-not}
use mathlib.Core.Path.{◌≡◌, refl, sym, ap, subst, ◌∙◌}
use lib.Dec.{eqb}
use borrow.Author.Tests.{eqb-true, eq-eqb}
use native.Mathlib.Omega.{arith}
use native.Mathlib.Decide.{ℕ_discrete}
use Rattle.counting.proofs.Tests.{all_true, all_holds}
use Rattle.paper.specs.Table.{Table, Joined, here, along, OnePiece, labels, one_piece}
use Rattle.paper.specs.Meanings.{LeftByLink, Cut}

pub joined_trans : {t : Table} {x y z : ℕ} → Joined t x y → Joined t y z → Joined t x z
joined_trans p here = p
joined_trans p (along q i b h s e) = along (joined_trans p q) i b h s e

pub joined_sym : {t : Table} {x y : ℕ} → Joined t x y → Joined t y x
joined_sym here = here
joined_sym {t} (along p i b h s e) = joined_trans (along here i (not b) h e (ap (t.end i) (not-not b) ∙ s)) (joined_sym p)

joined_to : {t : Table} {x y z : ℕ} → y ≡ z → Joined t x y → Joined t x z
joined_to {t} {x} e p = subst (Joined t x) e p

-- the two nodes of a link
joined_link : (t : Table) (i : ℕ) → i < t.links → Joined t (t.end i true) (t.end i false)
joined_link t i h = along here i true h refl refl

-- a label is a node that the node with the label is joined to
pub joined_label : (t : Table) (k : ℕ) → k ≤ t.links → (x : ℕ) → Joined t x (labels t k x)
unfolding labels
joined_label t zero h x = here
joined_label t (suc k) h x = go (joined_label t k (omega arith)) (eqb (labels t k x) (labels t k (t.end k true))) refl
  where
    go : ((y : ℕ) → Joined t y (labels t k y)) → (b : Bool) → eqb (labels t k x) (labels t k (t.end k true)) ≡ b → Joined t x (cond b (labels t k (t.end k false)) (labels t k x))
    go below true e =
        let to-second = joined_trans (joined_to (eqb-true _ _ e) (below x)) (joined_sym (below (t.end k true))) in
        joined_trans (joined_trans to-second (joined_link t k h)) (below (t.end k false))
    go below false e = below x

-- a link below k has one label at both its nodes
label_link : (t : Table) (k i : ℕ) → i < k → labels t k (t.end i false) ≡ labels t k (t.end i true)
unfolding labels
label_link t zero i h = absurd (omega arith)
label_link t (suc k) i h = go (ℕ_discrete i k) (label_link t k i)
  where
    first : ℕ
    first = labels t k (t.end k false)

    second : ℕ
    second = labels t k (t.end k true)

    relabel : ℕ → ℕ
    relabel l = cond (eqb l second) first l

    same : (b : Bool) → cond b first first ≡ first
    same true = refl
    same false = refl

    go : Dec (i ≡ k) → (i < k → labels t k (t.end i false) ≡ labels t k (t.end i true)) → relabel (labels t k (t.end i false)) ≡ relabel (labels t k (t.end i true))
    go (yes q) below = rw q (same (eqb first second) ∙ ap (λ b. cond b first second) (sym (eq-eqb second second refl)))
    go (no q) below = ap relabel (below (omega arith))

-- a path of links carries a label along
pub label_joined : (t : Table) {x y : ℕ} → Joined t x y → labels t t.links x ≡ labels t t.links y
label_joined t here = refl
label_joined t (along p i b h s e) = label_joined t p ∙ sym (ap (labels t t.links) s) ∙ ends b ∙ ap (labels t t.links) e
  where
    ends : (c : Bool) → labels t t.links (t.end i c) ≡ labels t t.links (t.end i (not c))
    ends false = label_link t t.links i h
    ends true = sym (label_link t t.links i h)

pub one_piece_holds : (t : Table) → one_piece t ≡ true → OnePiece t
unfolding one_piece
one_piece_holds t e x h =
    let m = t.links in
    let same = eqb-true _ _ (all_true t.nodes (λ x. eqb (labels t m x) (labels t m 0)) e x h) in
    joined_trans (joined_to (sym same) (joined_label t m (omega arith) 0)) (joined_sym (joined_label t m (omega arith) x))

pub one_piece_back : (t : Table) → OnePiece t → one_piece t ≡ true
unfolding one_piece
one_piece_back t one =
    all_holds t.nodes (λ x. eqb (labels t t.links x) (labels t t.links 0)) (λ x h. eq-eqb _ _ (sym (label_joined t (one x h))))

-- a set of nodes that holds one end of a path and not the other is left by a link of the path
cut_of_path : (t : Table) (S : ℕ → Bool) {x y : ℕ} → Joined t x y → S x ≡ true → S y ≡ false → LeftByLink t S
cut_of_path t S here inside outside = absurd (true≢false (sym inside ∙ outside))
cut_of_path t S {x} (along {y} p i b h s e) inside outside = go (S y) refl (cut_of_path t S p inside)
  where
    go : (c : Bool) → S y ≡ c → (S y ≡ false → LeftByLink t S) → LeftByLink t S
    go true q below = (i, b, h, ap S s ∙ q, ap S e ∙ outside)
    go false q below = below q

pub one_piece_cut : (t : Table) → OnePiece t → Cut t
one_piece_cut t one S x y hx hy = cut_of_path t S (joined_trans (joined_sym (one x hx)) (one y hy))

-- Peeling: the nodes that wait stay in one piece, and links and nodes leave it one by one.
use Prim.Native.Nat.{ℕ, ◌+◌, ◌≤◌, ◌<◌}
use mathlib.Core.Bool.{Bool, true, false, not, cond, ◌&&◌, false≢true, and-eq-true_iff}
use mathlib.Core.Path.{◌≡◌, refl, ap, sym, ◌∙◌}
use native.Mathlib.Omega.{arith}
use lib.Dec.{eqb}
use borrow.Author.Tests.{lt-ltb, ne_eqb, eqb-true}
use Rattle.counting.specs.Count.{count, bit}
use Rattle.counting.proofs.Sums.{sum_add, sum_eq, count_all, count_none, count_witness, count_zero, count_gain}
use Rattle.paper.specs.Table.{Table, source, EndsBelow, NoSelfLink, OnePiece}
use Rattle.paper.specs.State.{State, fresh}
use Rattle.paper.specs.Stuck.{links_into}
use Rattle.paper.specs.Steps.{Step, children_known, add_child, acknowledge, resolve, become_root, unheard, at, possible, effect}
use Rattle.paper.specs.Report.{waiting_count}
use Rattle.counting.proofs.Booleans.{clash}
use Rattle.election.specs.Local.{Local}
use Rattle.election.proofs.Updates.{at_place, at_other}
use Rattle.election.proofs.Possible.{children_known_possible}
use Rattle.election.proofs.Ends.{ends_differ}
use Rattle.election.proofs.Into.{into_le, into_none}
use Rattle.election.proofs.Balance.{inside}
use Rattle.election.proofs.Pieces.{InOnePiece, fresh_piece, elsewhere, linked, peeled_piece}

-- W, the nodes that wait, after some peeling
pub record Peeled (t : Table) (W : ℕ → Bool) : Type 0 where
  pub piece : InOnePiece t W
  -- while some node waits, as many links as nodes have left
  pub some : 0 < count t.nodes W → t.links + count t.nodes W ≡ inside t W + t.nodes
  -- where none is left, the table had no loop
  pub none : count t.nodes W ≡ 0 → t.links + 1 ≡ t.nodes

pub fresh_peeled : (t : Table) → 1 ≤ t.nodes → EndsBelow t → OnePiece t → Peeled t (fresh t).waiting
fresh_peeled t one below joined =
    record {
      piece = fresh_piece t below joined;
      some = λ p. omega (arith, all_wait, all_inside);
      none = λ p. absurd (omega (arith, all_wait));
    }
  where
    waits : (x : ℕ) → x < t.nodes → (fresh t).waiting x ≡ true
    waits x l = lt-ltb x t.nodes l

    all_wait : waiting_count t (fresh t) ≡ t.nodes
    all_wait = count_all t.nodes (fresh t).waiting waits

    all_inside : inside t (fresh t).waiting ≡ t.links
    all_inside =
        count_all t.links (λ i. (fresh t).waiting (t.end i false) && (fresh t).waiting (t.end i true)) (λ i l. (and-eq-true_iff ((fresh t).waiting (t.end i false)) ((fresh t).waiting (t.end i true))).1 (waits (t.end i false) (below i false l), waits (t.end i true) (below i true l)))

-- of one link: which ends are in W, and which end is x
of_one_link : (u v d e : Bool) → (d ≡ true → u ≡ true) → (e ≡ true → v ≡ true) → (d ≡ true → e ≡ false) → bit (u && v) ≡ bit (cond d false u && cond e false v) + (bit (e && u) + bit (d && v))
of_one_link u v true e p q r = rw (p refl, r refl) (omega arith)
of_one_link true v false true p q r = rw (q refl) refl
of_one_link false v false true p q r = refl
of_one_link u v false false p q r = omega arith

module _ (t : Table) (below : EndsBelow t) (apart : NoSelfLink t) (W : ℕ → Bool) (x : ℕ) (l : x < t.nodes) (w : W x ≡ true) where
  -- without x, its links into W are no longer inside
  inside_peeled : inside t W ≡ inside t (at W x false) + links_into t W x
  inside_peeled =
      sum_eq t.links (λ i. bit (W (t.end i false) && W (t.end i true))) (λ i. kept i + lost i) (λ i r. of_one_link (W (t.end i false)) (W (t.end i true)) (eqb (t.end i false) x) (eqb (t.end i true) x) (member (t.end i false)) (member (t.end i true)) (λ e. ne_eqb (t.end i true) x (λ f. apart i r (eqb-true (t.end i false) x e ∙ sym f))))
      ∙ sum_add t.links kept lost
    where
      kept : ℕ → ℕ
      kept i = bit (at W x false (t.end i false) && at W x false (t.end i true))

      lost : ℕ → ℕ
      lost i = bit (eqb (t.end i true) x && W (t.end i false)) + bit (eqb (t.end i false) x && W (t.end i true))

      member : (y : ℕ) → eqb y x ≡ true → W y ≡ true
      member y e = ap W (eqb-true y x e) ∙ w

  size_peeled : count t.nodes W ≡ count t.nodes (at W x false) + 1
  size_peeled =
      count_gain t.nodes (at W x false) W x l (at_place W x false refl) w (λ j r d. at_other W x false d)

  -- another member: x has a link into W
  another : InOnePiece t W → 0 < count t.nodes (at W x false) → 1 ≤ links_into t W x
  another piece p =
      let y = count_witness t.nodes (at W x false) p in
      let o = elsewhere W x false≢true y.0 y.2 in
      linked t W x piece l w y.0 y.1 o.1 o.0

  -- no other member: x has no link into W, and nothing is inside the rest
  alone : count t.nodes (at W x false) ≡ 0 → (links_into t W x ≡ 0) × (inside t (at W x false) ≡ 0)
  alone z =
      (into_none t x (λ i b. W (source t i b)) (λ i b r e v. clash (at_other W x false (λ f. ends_differ t apart i b r (f ∙ sym e)) ∙ v) (nobody (source t i b) (below i b r))), count_none t.links (λ i. at W x false (t.end i false) && at W x false (t.end i true)) (λ i r. ap (λ p. p && at W x false (t.end i true)) (nobody (t.end i false) (below i false r))))
    where
      nobody : (y : ℕ) → y < t.nodes → at W x false y ≡ false
      nobody = count_zero t.nodes (at W x false) z

  -- Peeling a node with at most one link into W.
  pub peel : Peeled t W → links_into t W x ≤ 1 → Peeled t (at W x false)
  peel p few =
      record {
        piece = peeled_piece t W x p.piece few;
        some =
            λ m.
            let a = another p.piece m in
            let b = inside_peeled in
            let c = size_peeled in
            let d = p.some (omega arith) in
            omega arith;
        none =
            λ z.
            let a = alone z in
            let b = inside_peeled in
            let c = size_peeled in
            let d = p.some (omega arith) in
            omega arith;
      }

-- directions from waiting nodes lack child
pub waiting_unheard : (t : Table) (s : State) → Local t s → (x : ℕ) → links_into t s.waiting x ≤ unheard t s x
waiting_unheard t s local x =
    into_le t x (λ i b. s.waiting (source t i b)) (λ i b. not (s.child i b)) (λ i b l e w. ap not (local.childless i b l w))

-- Every step keeps what peeling has made.
pub peeled_kept : (t : Table) (s : State) → EndsBelow t → NoSelfLink t → Local t s → Peeled t s.waiting → (x : Step) → possible t s x ≡ true → Peeled t (effect t s x).waiting
unfolding effect
peeled_kept t s below apart local p (children_known x) e =
    let may = children_known_possible t s x e in
    let u = waiting_unheard t s local x in
    let few = may.2 in
    peel t below apart s.waiting x may.0 may.1 p (omega arith)
peeled_kept t s below apart local p (add_child i b) e = p
peeled_kept t s below apart local p (acknowledge i b) e = p
peeled_kept t s below apart local p (resolve i b) e = p
peeled_kept t s below apart local p (become_root x) e = p

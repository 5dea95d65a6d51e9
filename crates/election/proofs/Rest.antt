-- The states that a run reaches and in which no step is possible.
use Prim.Native.Nat.{ℕ, ◌+◌, ◌*◌, ◌≤◌, ◌<◌}
use mathlib.Core.Bool.{Bool, true, false, not, ◌&&◌, and-true, and-eq-true_iff}
use mathlib.Core.Path.{◌≡◌, refl, ap, ◌∙◌}
use mathlib.Core.Logic.{◌⊎◌, inl, inr, ⊎_elim}
use native.Mathlib.Omega.{arith}
use native.Mathlib.Decide.{ℕ_discrete, dec_lt}
use lib.Dec.{ltb, leb}
use borrow.Author.Tests.{lt-ltb, le-leb, eq-eqb, not-true}
use Rattle.counting.specs.Count.{bit}
use Rattle.counting.proofs.Sums.{sum_add, sum_ones, count_none, count_le, count_zero}
use Rattle.counting.proofs.Directions.{both_eq}
use Rattle.paper.specs.Table.{Table, source, target, directions, EndsBelow, NoSelfLink}
use Rattle.paper.specs.State.{Message, none, request, acknowledgement, State}
use Rattle.paper.specs.Steps.{children_known, add_child, acknowledge, resolve, become_root, unheard, carries, possible, Still}
use Rattle.paper.specs.Stuck.{links_into, Closed}
use Rattle.paper.specs.Report.{roots, waiting_count}
use Rattle.counting.proofs.Booleans.{clash}
use Rattle.election.specs.Local.{Local}
use Rattle.election.proofs.Updates.{fails, passes, either}
use Rattle.election.proofs.Into.{into_le, into_none}
use Rattle.election.proofs.Ends.{is_done, done}
use Rattle.election.proofs.Balance.{is_bare, bare, is_full}
use Rattle.election.proofs.Left.{full, nobody}
use Rattle.election.proofs.Closed.{closed_inside}
use Rattle.election.proofs.Course.{Reached}

-- a root is full
pub roots_full : (t : Table) (s : State) → Local t s → roots t s ≤ full t s
roots_full t s local =
    count_le t.nodes s.root (is_full t s) (λ x l r. eq-eqb (unheard t s x) 0 (into_none t x (λ i b. not (s.child i b)) (λ i b k e c. clash (local.rooted i b k (ap s.root e ∙ r)) (not-true (s.child i b) c))))

-- how many directions start outside K
abbrev pub outside : Table → (ℕ → Bool) → ℕ
outside t K = directions t (λ i b. not (K (source t i b)))

-- no node waits and the table has no loop, or some node waits and it has one
abbrev pub Settled : Table → State → Type 0
Settled t s = ((waiting_count t s ≡ 0) × (t.links + 1 ≡ t.nodes)) ⊎ ((0 < waiting_count t s) × (t.nodes ≤ t.links))

-- the tests of a step that names k
both_true : (n k : ℕ) (p q : Bool) → k < n → p ≡ true → q ≡ true → (ltb k n && (p && q)) ≡ true
both_true n k p q l e f = rw (lt-ltb k n l, e, f) refl

module _ (t : Table) (s : State) (below : EndsBelow t) (apart : NoSelfLink t) (reached : Reached t s) (still : Still t s) where
  -- no direction carries a message
  no_message : (i : ℕ) (b : Bool) → i < t.links → carries (s.message i b) ≡ false
  unfolding possible
  no_message i b l = fails (carries (s.message i b)) (λ c. go c (s.waiting (target t i b)) refl)
    where
      go : carries (s.message i b) ≡ true → (w : Bool) → s.waiting (target t i b) ≡ w → ⊥
      go c true w = clash (both_true t.links i (s.waiting (target t i b)) (carries (s.message i b)) l w c) (still (add_child i b))
      go c false w = clash (both_true t.links i (not (s.waiting (target t i b))) (carries (s.message i b)) l (ap not w) c) (still (acknowledge i b))

  silent : (i : ℕ) (b : Bool) → i < t.links → s.message i b ≡ none
  silent i b l = go (s.message i b) (no_message i b l)
    where
      go : (m : Message) → carries m ≡ false → m ≡ none
      go none e = refl
      go request e = clash refl e
      go acknowledgement e = clash refl e

  -- a waiting node has two unheard directions or more
  waits_for_two : (x : ℕ) → x < t.nodes → s.waiting x ≡ true → 2 ≤ unheard t s x
  unfolding possible
  waits_for_two x l w = either (dec_lt 1 (unheard t s x)) (λ h. h) (λ h. clash (both_true t.nodes x (s.waiting x) (leb (unheard t s x) 1) l w (le-leb (unheard t s x) 1 (omega arith))) (still (children_known x)))

  -- each of them from a waiting node
  unheard_waits : (x : ℕ) → s.waiting x ≡ true → unheard t s x ≤ links_into t s.waiting x
  unheard_waits x w =
      into_le t x (λ i b. not (s.child i b)) (λ i b. s.waiting (source t i b)) (λ i b l e c. passes (s.waiting (source t i b)) (λ v. ⊎_elim (λ m. clash (ap carries m) (no_message i b l)) (λ h. clash h (not-true (s.child i b) c)) (reached.local.told i b l v (ap s.waiting e ∙ w))))

  -- The waiting nodes are a closed set.
  pub still_closed : Closed t s.waiting
  still_closed x l w =
      let a = waits_for_two x l w in
      let b = unheard_waits x w in omega arith

  -- a full node is root
  full_root : (x : ℕ) → x < t.nodes → is_full t s x ≡ true → s.root x ≡ true
  unfolding possible
  full_root x l f =
      passes (s.root x) (λ r. clash (both_true t.nodes x (not (s.root x)) (is_full t s x) l (ap not r) f) (still (become_root x)))

  -- no link is bare: both its ends would contend
  no_bare : bare t s ≡ 0
  unfolding possible
  no_bare = count_none t.links (is_bare t s) (λ i l. fails (is_bare t s i) (λ e. go i l e))
    where
      go : (i : ℕ) → i < t.links → is_bare t s i ≡ true → ⊥
      go i l e =
          let p = (and-eq-true_iff (not (s.waiting (t.end i false)) && not (s.waiting (t.end i true))) (not (s.child i false) && not (s.child i true))).0 e in
          let w = (and-eq-true_iff (not (s.waiting (t.end i false))) (not (s.waiting (t.end i true)))).0 p.0 in
          let c = (and-eq-true_iff (not (s.child i false)) (not (s.child i true))).0 p.1 in
          let x = not-true (s.waiting (t.end i false)) w.0 in
          let y = not-true (s.waiting (t.end i true)) w.1 in
          let f = not-true (s.child i false) c.0 in
          let g = not-true (s.child i true) c.1 in
          clash (both_true t.links i (s.contending (t.end i false)) (s.contending (t.end i true)) l (reached.local.met i true l y x g f (silent i true l)) (reached.local.met i false l x y f g (silent i false l))) (still (resolve i false))

  pub settled : Settled t s
  settled =
      either (ℕ_discrete (waiting_count t s) 0) (λ z. inl (z, reached.peeled.none z))
      (λ d.
      let p : 0 < waiting_count t s = omega arith in
      let a = reached.peeled.some p in
      let b = closed_inside t below s.waiting still_closed in inr (p, omega arith))

  -- every direction whose source has stopped is done
  pub all_done : done t s ≡ outside t s.waiting
  all_done =
      both_eq t.links (λ i b. bit (is_done t s i b)) (λ i b. bit (not (s.waiting (source t i b)))) (λ i b l. rw (no_message i b l, and-true (not (s.waiting (source t i b)))) refl)

  -- where no node waits there is one root, and every direction's source has stopped
  pub one_root : waiting_count t s ≡ 0 → roots t s ≡ 1
  one_root z =
      let a = roots_full t s reached.local in
      let b = count_le t.nodes (is_full t s) s.root full_root in
      let c = no_bare in
      let d = nobody t s below apart reached.local reached.peeled z in omega arith

  pub all_outside : waiting_count t s ≡ 0 → outside t s.waiting ≡ 2 * t.links
  all_outside z =
      let a = both_eq t.links (λ i b. bit (not (s.waiting (source t i b)))) (λ i b. 1) (λ i b l. ap (λ p. bit (not p)) (count_zero t.nodes s.waiting z (source t i b) (below i b l))) in
      let b = sum_add t.links (λ i. 1) (λ i. 1) in
      let c = sum_ones t.links in omega arith

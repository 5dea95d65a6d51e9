-- The published invariants hold in every state of every run: 15 by counting, the others by the local facts.
use Prim.Native.Nat.{ℕ, ◌≤◌, ◌<◌}
use mathlib.Core.Bool.{Bool, true, false, not, ◌&&◌, Bool-discrete}
use mathlib.Core.Path.{◌≡◌, refl, sym, ◌∙◌}
use mathlib.Core.List.{List}
use mathlib.Core.Logic.{inl, inr, ⊎_elim}
use native.Mathlib.Omega.{arith}
use lib.Dec.{eqb}
use borrow.Author.Tests.{eq-eqb, eqb-true}
use Rattle.counting.specs.Count.{bit}
use Rattle.counting.proofs.Sums.{count_same}
use Rattle.counting.proofs.Directions.{both_none}
use Rattle.paper.specs.Table.{Table, source, target, EndsBelow, NoSelfLink, OnePiece}
use Rattle.paper.specs.State.{none, State, fresh}
use Rattle.paper.specs.Steps.{Step, unheard, after, Run}
use Rattle.counting.proofs.Booleans.{clash}
use Rattle.election.specs.Local.{Local}
use Rattle.election.specs.Invariants.{Published, AllChild, OneAllChild, Invariants}
use Rattle.election.proofs.Updates.{fails, passes, either, target_back}
use Rattle.election.proofs.Messages.{loaded}
use Rattle.election.proofs.OneUnheard.{rest_child}
use Rattle.election.proofs.LocalRuns.{local_run}
use Rattle.election.proofs.Balance.{is_full}
use Rattle.election.proofs.Left.{full, Left}
use Rattle.election.proofs.Course.{reached_left}
use Rattle.election.proofs.Election.{every_reached}

pub published : (t : Table) (s : State) → EndsBelow t → Local t s → Published t s
published t s below L =
    record {
      i1 = λ v lv w. fails (s.contending v) (λ h. clash w (L.settled v lv h));
      i2 = L.silent;
      i3 = L.childless;
      i4 =
          λ i b j c v li lj into into' n.
          either
          (Bool-discrete (s.waiting v) true) inl
          (λ w.
          either
          (Bool-discrete (s.child i b) true)
          (λ h. inr (inl h))
          (λ p.
          inr
          (inr
          (rest_child t s below L v (fails (s.waiting v) w) i b li into (fails (s.child i b) p) j c lj into' n))));
      i6 = L.calm;
      i7 = L.quiet;
      i8 = L.heard;
      i9 = L.answered;
      i10 = L.asked;
      i11 = L.one_way;
      i12 = L.free;
      i13 = L.rooted;
      i14 =
          λ i b j c li lj h from n.
          rest_child t s below L (source t i b)
          (fails (s.waiting (source t i b)) (λ w. clash h (L.childless i b li w))) i (not b) li (target_back t i b) (L.one_way i b li h) j c lj
          (sym from)
          n;
      i16 = λ i b lt w p r. passes (s.waiting (source t i b)) (λ w'. untold i b lt w' w r p);
      i17 =
          λ i b lt w r p q.
          L.met i b lt w (fails (s.waiting (target t i b)) (λ w'. untold i b lt w w' r p)) p q r;
    }
  where
    -- a node that waits is told by each direction from a node that has stopped
    untold : (i : ℕ) (b : Bool) → i < t.links → s.waiting (source t i b) ≡ false → s.waiting (target t i b) ≡ true → s.message i b ≡ none → s.child i b ≡ false → ⊥
    untold i b lt w w' r p = ⊎_elim (λ q. loaded refl (sym q ∙ r)) (λ h. clash h p) (L.told i b lt w w')

pub published_run : (t : Table) → EndsBelow t → (xs : List Step) → Run t xs → Published t (after t (fresh t) xs)
published_run t below xs run = published t (after t (fresh t) xs) below (local_run t below xs run)

-- a node with child on every direction into it is full
all_child_full : (t : Table) (s : State) (v : ℕ) → AllChild t s v → is_full t s v ≡ true
all_child_full t s v all = eq-eqb (unheard t s v) 0 (both_none t.links (λ i b. bit (eqb (target t i b) v && not (s.child i b))) (λ i b l. go i b l (eqb (target t i b) v) refl))
  where
    go : (i : ℕ) (b : Bool) → i < t.links → (c : Bool) → eqb (target t i b) v ≡ c → bit (c && not (s.child i b)) ≡ 0
    go i b l true e = rw (all i b l (eqb-true (target t i b) v e)) refl
    go i b l false e = refl

pub one_all_child_run : (t : Table) → 1 ≤ t.nodes → EndsBelow t → NoSelfLink t → OnePiece t → (xs : List Step) → Run t xs → OneAllChild t (after t (fresh t) xs)
one_all_child_run t one below apart joined xs run v w lv lw p q =
    count_same t.nodes (is_full t s) (few (reached_left t below apart s (every_reached t one below apart joined xs run))) v w lv lw (all_child_full t s v p) (all_child_full t s w q)
  where
    s : State
    s = after t (fresh t) xs

    few : Left t s → full t s ≤ 1
    few (inl z) = omega arith
    few (inr o) = omega arith

-- all published invariants hold in every state that a run reaches
pub invariants_run : (t : Table) → 1 ≤ t.nodes → EndsBelow t → NoSelfLink t → OnePiece t → (xs : List Step) → Run t xs → Invariants t (after t (fresh t) xs)
invariants_run t one below apart joined xs run =
    record { of_every_table = published_run t below xs run; i15 = one_all_child_run t one below apart joined xs run }

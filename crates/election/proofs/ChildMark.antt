-- A child mark that is added to a direction whose reverse has neither child nor message.
use Prim.Native.Nat.{ℕ, ◌≤◌, ◌<◌}
use mathlib.Core.Bool.{Bool, true, false, not, ◌&&◌}
use mathlib.Core.Path.{◌≡◌, refl, sym, ap, ◌∙◌}
use native.Mathlib.Nat.{le_trans}
use lib.Dec.{eqb}
use Rattle.paper.specs.Table.{Table, source, target, directions}
use Rattle.paper.specs.State.{none, request, State}
use Rattle.paper.specs.Steps.{at_direction}
use mathlib.Core.Bool.{not-not}
use Rattle.counting.proofs.Booleans.{clash}
use Rattle.counting.proofs.Directions.{not_same}
use Rattle.election.specs.Local.{Local}
use Rattle.election.proofs.Updates.{fails, either, Same, same, on_direction, off_direction, direction_elim}
use Rattle.election.proofs.Messages.{loaded}
use Rattle.election.proofs.Unheard.{unheard_le}

-- the reverse of (j, c) is (i, b) where (j, c) is the reverse of (i, b)
pub turned : {i : ℕ} {b : Bool} {j : ℕ} (c : Bool) → Same i b j (not c) → Same i (not b) j c
turned c e = (e.0, sym (not-not c) ∙ ap not e.1)

pub turned_back : {i : ℕ} {b : Bool} {j : ℕ} {c : Bool} → Same i (not b) j c → Same i b j (not c)
turned_back {b} e = (e.0, ap not e.1 ∙ not-not b)

-- no direction is its own reverse
module _ (s : State) (i : ℕ) (b : Bool) where
  -- the marks with the new one
  abbrev pub marked : ℕ → Bool → Bool
  marked = at_direction s.child i b true

  pub marked_on : {j : ℕ} {c : Bool} → Same i b j c → marked j c ≡ true
  marked_on = on_direction s.child i b true

  pub marked_off : {j : ℕ} {c : Bool} → (Same i b j c → ⊥) → marked j c ≡ s.child j c
  marked_off = off_direction s.child i b true

  -- no mark is taken away
  pub kept : (j : ℕ) (c : Bool) → s.child j c ≡ true → marked j c ≡ true
  kept j c h = direction_elim s.child i b true (λ r. r ≡ true) j c (λ e. refl) (λ n. h)

  -- so one that is not there was not there
  pub absent : (j : ℕ) (c : Bool) → marked j c ≡ false → s.child j c ≡ false
  absent j c h = fails (s.child j c) (λ e. clash (kept j c e) h)

  -- and is not the new one
  pub not_new : (j : ℕ) (c : Bool) → marked j c ≡ false → Same i b j c → ⊥
  not_new j c h e = clash (marked_on e) h

  -- the reverse of a direction lacks child if it did, and is not the new one
  pub reverse_unmarked : (j : ℕ) (c : Bool) → (Same i (not b) j c → ⊥) → s.child j (not c) ≡ false → marked j (not c) ≡ false
  reverse_unmarked j c n h = marked_off (λ e. n (turned c e)) ∙ h

  -- if every direction out of a node with some mark lacks child, they all still do, provided that the new one's source has not that mark
  pub marked_sourced : (t : Table) (q : ℕ → Bool) → q (source t i b) ≡ false → ((j : ℕ) (c : Bool) → j < t.links → q (source t j c) ≡ true → s.child j c ≡ false) → (j : ℕ) (c : Bool) → j < t.links → q (source t j c) ≡ true → marked j c ≡ false
  marked_sourced t q n before j c lt h =
      marked_off (λ e. clash (rw (e.0, e.1) at h) n) ∙ before j c lt h

  -- no count of unheard directions rises
  pub marked_at_most_one : (t : Table) → Local t s → (x : ℕ) → x < t.nodes → s.waiting x ≡ false → directions t (λ j c. eqb (target t j c) x && not (marked j c)) ≤ 1
  marked_at_most_one t L x lt w = le_trans (unheard_le t s (record { waiting = s.waiting; contending = s.contending; root = s.root; child = marked; message = s.message }) x (λ j c lj. kept j c)) (L.at_most_one x lt w)

  module _ (t : Table) (L : Local t s) (back : s.child i (not b) ≡ false) where
    pub marked_one_way : (j : ℕ) (c : Bool) → j < t.links → marked j c ≡ true → marked j (not c) ≡ false
    marked_one_way j c lt h =
        either (same i b j c)
        (λ e. reverse_unmarked j c (λ r. not_same b (sym r.1 ∙ e.1)) (rw (e.0, e.1) back))
        (λ n.
        let had : s.child j c ≡ true = sym (marked_off n) ∙ h in
        reverse_unmarked j c (λ r. clash (rw (r.0, r.1) at had) back) (L.one_way j c lt had))

    pub marked_asked : s.message i (not b) ≡ none → (j : ℕ) (c : Bool) → j < t.links → s.message j c ≡ request → marked j (not c) ≡ false
    marked_asked quiet j c lt h =
        reverse_unmarked j c
        (λ r. loaded refl (sym (rw (r.0, r.1) at h) ∙ quiet)) (L.asked j c lt h)

-- Every run ends: the potential rises by one at every step but a resolved contention, which leaves it.
use Prim.Native.Nat.{ℕ, ◌+◌, ◌*◌, ◌≤◌, ◌<◌}
use mathlib.Core.Bool.{Bool, true, false, not, ◌&&◌, and-false, and-eq-true_iff}
use mathlib.Core.Path.{◌≡◌, refl, ap, sym, ◌∙◌}
use mathlib.Core.List.{List, [], ◌∷◌}
use native.Mathlib.Omega.{arith}
use native.Mathlib.Decide.{ℕ_discrete}
use lib.ListN.{length}
use borrow.Author.Tests.{lt-ltb, eq-eqb, ne_eqb}
use Rattle.counting.specs.Count.{count, bit}
use Rattle.counting.proofs.Bits.{bit_most}
use Rattle.counting.proofs.Sums.{sum_add, sum_le, sum_ones, sum_change, count_below, count_gain}
use Rattle.counting.proofs.Directions.{both_eq, both_gain}
use Rattle.paper.specs.Table.{Table, source, target, directions, EndsBelow, NoSelfLink}
use Rattle.paper.specs.State.{State}
use Rattle.paper.specs.Steps.{Step, children_known, add_child, acknowledge, resolve, become_root, carries, is_request, at, possible, effect, taken, is_resolve}
use Rattle.paper.specs.Report.{roots}
use Rattle.paper.specs.Meanings.{SoundMarks}
use Rattle.paper.proofs.Images.{sound_kept}
use Rattle.election.specs.Demand.{RunsEnd}
use Rattle.election.proofs.Updates.{fails, at_place, at_other}
use Rattle.election.proofs.Messages.{loaded, sends_something}
use Rattle.election.proofs.MessageRead.{unread, unread_on, unread_off}
use Rattle.election.proofs.Possible.{children_known_possible, add_child_possible, acknowledge_possible, resolve_possible, become_root_possible}

-- how many nodes have stopped waiting
abbrev pub stopped : Table → State → ℕ
stopped t s = count t.nodes (λ x. not (s.waiting x))

-- the source of a direction has stopped waiting and the direction carries no message
abbrev pub is_done : Table → State → ℕ → Bool → Bool
is_done t s i b = not (s.waiting (source t i b)) && not (carries (s.message i b))

-- how many directions are so
abbrev pub done : Table → State → ℕ
done t s = directions t (is_done t s)

abbrev pub potential : Table → State → ℕ
potential t s = stopped t s + done t s + roots t s

-- how many nodes do not contend
abbrev pub idle : Table → State → ℕ
idle t s = count t.nodes (λ x. not (s.contending x))

-- the two nodes of a link are not the same
pub ends_differ : (t : Table) → NoSelfLink t → (i : ℕ) (b : Bool) → i < t.links → source t i b ≡ target t i b → ⊥
ends_differ t apart i false l e = apart i l e
ends_differ t apart i true l e = apart i l (sym e)

module _ (t : Table) (s : State) where
  -- Kind 1 at x: the directions out of x were not done, and are not.
  done_children_known : (x : ℕ) → s.waiting x ≡ true → done t (effect t s (children_known x)) ≡ done t s
  unfolding effect
  done_children_known x w =
      both_eq t.links (λ i b. bit (is_done t (effect t s (children_known x)) i b)) (λ i b. bit (is_done t s i b)) (λ i b l. ap bit (same i b l (ℕ_discrete (source t i b) x)))
    where
      same : (i : ℕ) (b : Bool) → i < t.links → Dec (source t i b ≡ x) → is_done t (effect t s (children_known x)) i b ≡ is_done t s i b
      same i b l (yes e) =
          rw (eq-eqb (source t i b) x e, lt-ltb i t.links l, sends_something (s.child i (not b)), e, w) refl
      same i b l (no d) = rw (ne_eqb (source t i b) x d, lt-ltb i t.links l) refl

  -- Kinds 2 and 3 take the message off a direction: it was not done, and is.
  done_read : SoundMarks t s → (i : ℕ) (b : Bool) → i < t.links → carries (s.message i b) ≡ true → directions t (λ j c. not (s.waiting (source t j c)) && not (carries (unread s i b j c))) ≡ done t s + 1
  done_read sound i b l m =
      both_gain t.links (is_done t s) (λ j c. not (s.waiting (source t j c)) && not (carries (unread s i b j c))) i b l
      (rw m (and-false (not (s.waiting (source t i b)))))
      (rw (unread_on s i b (refl, refl), fails (s.waiting (source t i b)) (λ w. loaded m (sound i b l w))) refl)
      (λ j c r d. ap (λ z. not (s.waiting (source t j c)) && not (carries z)) (sym (unread_off s i b d)))

  -- Kind 1 at x: one more node has stopped.
  stopped_children_known : (x : ℕ) → x < t.nodes → s.waiting x ≡ true → stopped t (effect t s (children_known x)) ≡ stopped t s + 1
  unfolding effect
  stopped_children_known x l w =
      count_gain t.nodes (λ j. not (s.waiting j)) (λ j. not (at s.waiting x false j)) x l (ap not w) (ap not (at_place s.waiting x false refl)) (λ j r d. ap not (sym (at_other s.waiting x false d)))

  -- Kind 5 at x: one more root.
  roots_become_root : (x : ℕ) → x < t.nodes → s.root x ≡ false → roots t (effect t s (become_root x)) ≡ roots t s + 1
  unfolding effect
  roots_become_root x l r =
      count_gain t.nodes s.root (at s.root x true) x l r (at_place s.root x true refl) (λ j l' d. sym (at_other s.root x true d))

  -- The potential rises by one at every step but a resolved contention, which leaves it.
  pub potential_rises : SoundMarks t s → (x : Step) → possible t s x ≡ true → potential t (effect t s x) + bit (is_resolve x) ≡ potential t s + 1
  unfolding effect
  potential_rises sound (children_known x) e =
      let p = children_known_possible t s x e in
      let u = stopped_children_known x p.0 p.1 in
      let v = done_children_known x p.1 in omega arith
  potential_rises sound (add_child i b) e =
      let p = add_child_possible t s i b e in
      let u = done_read sound i b p.0 p.2 in omega arith
  potential_rises sound (acknowledge i b) e =
      let p = acknowledge_possible t s i b e in
      let u = done_read sound i b p.0 p.2 in omega arith
  potential_rises sound (resolve i b) e = refl
  potential_rises sound (become_root x) e =
      let p = become_root_possible t s x e in
      let u = roots_become_root x p.0 p.1 in omega arith

  -- A node that contends does so no more.
  idle_gain : (c : ℕ → Bool) (x : ℕ) → x < t.nodes → c x ≡ true → count t.nodes (λ j. not (at c x false j)) ≡ count t.nodes (λ j. not (c j)) + 1
  idle_gain c x l e =
      count_gain t.nodes (λ j. not (c j)) (λ j. not (at c x false j)) x l (ap not e) (ap not (at_place c x false refl)) (λ j r d. ap not (sym (at_other c x false d)))

  -- Kind 4: two more nodes do not contend.
  idle_resolve : EndsBelow t → NoSelfLink t → (i : ℕ) (b : Bool) → i < t.links → s.contending (source t i b) ≡ true → s.contending (target t i b) ≡ true → idle t (effect t s (resolve i b)) ≡ idle t s + 2
  unfolding effect
  idle_resolve below apart i b l p q =
      let x = source t i b in
      let c = at s.contending x false in
      let u = idle_gain s.contending x (below i b l) p in
      let v = idle_gain c (target t i b) (below i (not b) l) (at_other s.contending x false (λ e. ends_differ t apart i b l (sym e)) ∙ q) in
      omega arith

  -- Kind 3: at most one node fewer.
  idle_acknowledge : EndsBelow t → (i : ℕ) (b : Bool) → i < t.links → idle t s ≤ idle t (effect t s (acknowledge i b)) + 1
  unfolding effect
  idle_acknowledge below i b l =
      let y = target t i b in
      let r = is_request (s.message i b) in
      let u = sum_change t.nodes (λ j. bit (not (s.contending j))) (λ j. bit (not (at s.contending y r j))) y (below i (not b) l) (λ j k d. ap (λ z. bit (not z)) (sym (at_other s.contending y r d))) in
      let v = bit_most (not (s.contending y)) in omega arith

  -- Twice the potential and the nodes that do not contend rise at every step.
  pub step_rises : EndsBelow t → NoSelfLink t → SoundMarks t s → (x : Step) → possible t s x ≡ true → 2 * potential t s + idle t s < 2 * potential t (effect t s x) + idle t (effect t s x)
  unfolding effect
  step_rises below apart sound x e = go x e (potential_rises sound x e)
    where
      go : (x : Step) → possible t s x ≡ true → potential t (effect t s x) + bit (is_resolve x) ≡ potential t s + 1 → 2 * potential t s + idle t s < 2 * potential t (effect t s x) + idle t (effect t s x)
      go (children_known x) e u = omega arith
      go (add_child i b) e u = omega arith
      go (acknowledge i b) e u =
          let v = idle_acknowledge below i b (acknowledge_possible t s i b e).0 in omega arith
      go (resolve i b) e u =
          let p = resolve_possible t s i b e in
          let v = idle_resolve below apart i b p.0 p.1 p.2 in omega arith
      go (become_root x) e u = omega arith

potential_below : (t : Table) (s : State) → 2 * potential t s + idle t s ≤ 5 * t.nodes + 4 * t.links
potential_below t s =
    let p = count_below t.nodes (λ x. not (s.waiting x)) in
    let q = count_below t.nodes s.root in
    let r = count_below t.nodes (λ x. not (s.contending x)) in
    let d = sum_le t.links (λ i. bit (is_done t s i false) + bit (is_done t s i true)) (λ i. 1 + 1) (λ i l. let u = bit_most (is_done t s i false) in let v = bit_most (is_done t s i true) in omega arith) in
    let e = sum_add t.links (λ i. 1) (λ i. 1) in
    let o = sum_ones t.links in omega arith

-- From any state with sound marks every run ends.
pub each_run_ends : (t : Table) (s : State) → EndsBelow t → NoSelfLink t → SoundMarks t s → (xs : List Step) → taken t s xs ≡ true → length xs ≤ 5 * t.nodes + 4 * t.links
unfolding taken
each_run_ends t s below apart sound xs e = let g = grows s sound xs e in omega arith
  where
    grows : (s : State) → SoundMarks t s → (xs : List Step) → taken t s xs ≡ true → length xs + (2 * potential t s + idle t s) ≤ 5 * t.nodes + 4 * t.links
    grows s sound [] e = let p = potential_below t s in omega arith
    grows s sound (x ∷ xs) e =
        let p = (and-eq-true_iff (possible t s x) (taken t (effect t s x) xs)).0 e in
        let u = step_rises t s below apart sound x p.0 in
        let g = grows (effect t s x) (sound_kept t s x sound) xs p.1 in omega arith

pub every_run_ends : (t : Table) → EndsBelow t → NoSelfLink t → RunsEnd t
every_run_ends t below apart s = each_run_ends t s below apart

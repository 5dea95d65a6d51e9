-- What holds along every run: the facts of every state reached, the number of steps, the contentions resolved.
use Prim.Native.Nat.{ℕ, ◌+◌, ◌≤◌, ◌<◌}
use mathlib.Core.Bool.{Bool, true, false, not, ◌&&◌, and-eq-true_iff}
use mathlib.Core.Path.{◌≡◌, refl, ap}
use mathlib.Core.Logic.{◌⊎◌, inl, inr}
use mathlib.Core.List.{List, [], ◌∷◌}
use native.Mathlib.Omega.{arith}
use lib.Dec.{eqb}
use lib.ListN.{length}
use borrow.Author.Tests.{eq-eqb, eqb-true}
use Rattle.counting.specs.Count.{bit}
use Rattle.counting.proofs.Sums.{count_some, count_le}
use Rattle.counting.proofs.Directions.{both_gain}
use Rattle.paper.specs.Table.{Table, target, EndsBelow, NoSelfLink, OnePiece}
use Rattle.paper.specs.State.{State, fresh}
use Rattle.paper.specs.Steps.{Step, children_known, add_child, acknowledge, resolve, become_root, unheard, possible, effect, after, taken, is_resolve, resolved}
use Rattle.paper.specs.Meanings.{SoundMarks}
use Rattle.paper.proofs.Images.{sound_kept}
use Rattle.election.specs.Local.{Local}
use Rattle.election.proofs.Possible.{resolve_possible}
use Rattle.election.proofs.Unheard.{unheard_le}
use Rattle.election.proofs.ChildMark.{marked, marked_on, marked_off, kept}
use Rattle.election.proofs.FreshIsLocal.{local_fresh}
use Rattle.election.proofs.LocalRuns.{local_step}
use Rattle.election.proofs.Ends.{potential, potential_rises}
use Rattle.election.proofs.Balance.{is_bare, bare, is_full}
use Rattle.election.proofs.Peeling.{Peeled, fresh_peeled, peeled_kept}
use Rattle.election.proofs.Left.{full, Left, left}

-- what every step keeps, every list of steps keeps
pub along : (t : Table) (P : State → Type 0) → ((s : State) → P s → (x : Step) → possible t s x ≡ true → P (effect t s x)) → (s : State) → P s → (xs : List Step) → taken t s xs ≡ true → P (after t s xs)
unfolding taken after
along t P step s p [] e = p
along t P step s p (x ∷ xs) e =
    let q = (and-eq-true_iff (possible t s x) (taken t (effect t s x) xs)).0 e in
    along t P step (effect t s x) (step s p x q.0) xs q.1

-- A list of steps is as long as the potential has risen, and one more for each contention resolved.
pub length_potential : (t : Table) (s : State) → SoundMarks t s → (xs : List Step) → taken t s xs ≡ true → length xs + potential t s ≡ potential t (after t s xs) + resolved xs
unfolding taken after resolved
length_potential t s sound [] e = omega arith
length_potential t s sound (x ∷ xs) e =
    let q = (and-eq-true_iff (possible t s x) (taken t (effect t s x) xs)).0 e in
    let r = potential_rises t s sound x q.0 in
    let i = length_potential t (effect t s x) (sound_kept t s x sound) xs q.1 in omega arith

-- child marks are never taken away
child_kept : (t : Table) (s : State) (x : Step) (i : ℕ) (b : Bool) → s.child i b ≡ true → (effect t s x).child i b ≡ true
unfolding effect
child_kept t s (children_known x) i b c = c
child_kept t s (add_child k a) i b c = kept s k a i b c
child_kept t s (acknowledge k a) i b c = c
child_kept t s (resolve k a) i b c = kept s k a i b c
child_kept t s (become_root x) i b c = c

-- a full node stays full
full_grows : (t : Table) (s : State) (x : Step) → full t s ≤ full t (effect t s x)
full_grows t s x =
    count_le t.nodes (is_full t s) (is_full t (effect t s x)) (λ y l e. let u = eqb-true (unheard t s y) 0 e in let v = unheard_le t s (effect t s x) y (λ i b k. child_kept t s x i b) in eq-eqb (unheard t (effect t s x) y) 0 (omega arith))

-- of both directions of a link
both_ways : (P : Bool → Type 0) (b : Bool) → P b → P (not b) → (c : Bool) → P c
both_ways P true p q true = p
both_ways P true p q false = q
both_ways P false p q true = q
both_ways P false p q false = p

-- Kind 4 works on a bare link, and leaves a full node.
module _ (t : Table) (s : State) (below : EndsBelow t) (local : Local t s) (i : ℕ) (b : Bool) (e : possible t s (resolve i b) ≡ true) where
  known : i < t.links
  known = (resolve_possible t s i b e).0

  contend : (c : Bool) → s.contending (t.end i c) ≡ true
  contend =
      both_ways (λ c. s.contending (t.end i c) ≡ true) b (resolve_possible t s i b e).1 (resolve_possible t s i b e).2

  halted : (c : Bool) → s.waiting (t.end i c) ≡ false
  halted c = local.settled (t.end i c) (below i c known) (contend c)

  childless : (c : Bool) → s.child i c ≡ false
  childless c = local.free i c known (contend c)

  resolve_bare : 0 < bare t s
  resolve_bare =
      count_some t.links (is_bare t s) i known (rw (halted false, halted true, childless false, childless true) refl)

  resolve_full : 0 < full t (effect t s (resolve i b))
  unfolding effect
  resolve_full =
      let y = target t i b in
      let few = local.at_most_one y (below i (not b) known) (halted (not b)) in
      let fell = both_gain t.links (λ j c. eqb (target t j c) y && not (marked s i b j c)) (λ j c. eqb (target t j c) y && not (s.child j c)) i b known (rw (eq-eqb y y refl, marked_on s i b (refl, refl)) refl) (rw (eq-eqb y y refl, childless b) refl) (λ j c l d. ap (λ z. eqb (target t j c) y && not z) (marked_off s i b d)) in
      count_some t.nodes (is_full t (effect t s (resolve i b))) y (below i (not b) known) (eq-eqb (unheard t (effect t s (resolve i b)) y) 0 (omega arith))

-- the facts of every state that a run reaches
pub record Reached (t : Table) (s : State) : Type 0 where
  pub local : Local t s
  pub peeled : Peeled t s.waiting

module _ (t : Table) (below : EndsBelow t) (apart : NoSelfLink t) where
  pub reached_fresh : 1 ≤ t.nodes → OnePiece t → Reached t (fresh t)
  reached_fresh one joined = record { local = local_fresh t below; peeled = fresh_peeled t one below joined }

  pub reached_kept : (s : State) → Reached t s → (x : Step) → possible t s x ≡ true → Reached t (effect t s x)
  reached_kept s r x e =
      record { local = local_step t s below r.local x e; peeled = peeled_kept t s below apart r.local r.peeled x e }

  pub reached_left : (s : State) → Reached t s → Left t s
  reached_left s r = left t s below apart r.local r.peeled

  -- Contentions resolved and full nodes: never two; and none is resolved on a table with a loop.
  pub resolved_few : (s : State) → Reached t s → (xs : List Step) → taken t s xs ≡ true → (resolved xs + full t s ≤ 1) × ((resolved xs ≡ 0) ⊎ (t.links + 1 ≡ t.nodes))
  unfolding taken resolved
  resolved_few s r [] e = (few (reached_left s r), inl refl)
    where
      few : Left t s → 0 + full t s ≤ 1
      few (inl z) = omega arith
      few (inr o) = omega arith
  resolved_few s r (x ∷ xs) e =
      let q = (and-eq-true_iff (possible t s x) (taken t (effect t s x) xs)).0 e in
      go x q.0 (resolved_few (effect t s x) (reached_kept s r x q.0) xs q.1) (reached_left s r)
    where
      Few : ℕ → State → Type 0
      Few k s = (k + full t s ≤ 1) × ((k ≡ 0) ⊎ (t.links + 1 ≡ t.nodes))

      -- a step that resolves nothing
      same : (x : Step) → Few (resolved xs) (effect t s x) → Few (0 + resolved xs) s
      same x later = (let v = full_grows t s x in omega arith, fate later.1)
        where
          fate : (resolved xs ≡ 0) ⊎ (t.links + 1 ≡ t.nodes) → (0 + resolved xs ≡ 0) ⊎ (t.links + 1 ≡ t.nodes)
          fate (inl z) = inl (omega arith)
          fate (inr h) = inr h

      go : (x : Step) → possible t s x ≡ true → Few (resolved xs) (effect t s x) → Left t s → Few (bit (is_resolve x) + resolved xs) s
      go (children_known x) p later now = same (children_known x) later
      go (add_child i b) p later now = same (add_child i b) later
      go (acknowledge i b) p later now = same (acknowledge i b) later
      go (become_root x) p later now = same (become_root x) later
      go (resolve i b) p later (inl z) = let u = resolve_bare t s below r.local i b p in absurd (omega arith)
      go (resolve i b) p later (inr o) =
          let u = resolve_bare t s below r.local i b p in
          let v = resolve_full t s below r.local i b p in (omega arith, inr o.1)

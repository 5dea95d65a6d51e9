-- The local facts are kept when a node knows its children.
use Prim.Native.Nat.{ℕ, ◌≤◌, ◌<◌}
use mathlib.Core.Bool.{Bool, true, false, not, cond}
use mathlib.Core.Path.{◌≡◌, refl, sym, ap, ◌∙◌}
use mathlib.Core.Logic.{◌⊎◌, inl, ⊎_elim}
use native.Mathlib.Decide.{ℕ_discrete}
use borrow.Author.Tests.{lt-ltb, eq-eqb, ne_eqb}
use Rattle.paper.specs.Table.{Table, source, target}
use Rattle.paper.specs.State.{Message, none, request, acknowledgement, State}
use Rattle.paper.specs.Steps.{unheard, at, out_of, sends, children_known, possible, effect}
use Rattle.counting.proofs.Booleans.{clash}
use Rattle.paper.proofs.Changes.{at_elim}
use Rattle.election.specs.Local.{Local}
use Rattle.election.proofs.Updates.{either, at_place, at_other}
use Rattle.election.proofs.Messages.{loaded, sends_request, sends_acknowledgement, sends_something}
use Rattle.election.proofs.Possible.{children_known_possible}

module _ (t : Table) (s : State) (x : ℕ) (L : Local t s) (can : possible t s (children_known x) ≡ true) where
  waited : s.waiting x ≡ true
  waited = (children_known_possible t s x can).1

  -- the messages after the step: what x sends on the directions out of it, and the others as they were
  abbrev sent : ℕ → Bool → Message
  sent j c = cond (out_of t x j c) (sends (s.child j (not c))) (s.message j c)

  sent_elim : (P : Message → Type 0) (j : ℕ) (c : Bool) → j < t.links → (source t j c ≡ x → P (sends (s.child j (not c)))) → ((source t j c ≡ x → ⊥) → P (s.message j c)) → P (sent j c)
  sent_elim P j c lj out other =
      either
      (ℕ_discrete (source t j c) x)
      (λ e. rw (lt-ltb j t.links lj, eq-eqb (source t j c) x e) (out e))
      (λ n. rw (lt-ltb j t.links lj, ne_eqb (source t j c) x n) (other n))

  -- who waits after the step: not x, and who else did before
  abbrev waiting' : ℕ → Bool
  waiting' = at s.waiting x false

  waits : (P : Bool → Type 0) (z : ℕ) → (z ≡ x → P false) → ((z ≡ x → ⊥) → P (s.waiting z)) → P (waiting' z)
  waits P = at_elim P s.waiting x false

  -- who waits did before, and is not x
  did : (z : ℕ) → waiting' z ≡ true → s.waiting z ≡ true
  did z = waits (λ r. r ≡ true → s.waiting z ≡ true) z (λ e h. clash h refl) (λ n h. h)

  not_mover : (z : ℕ) → waiting' z ≡ true → z ≡ x → ⊥
  not_mover z h e = clash h (at_place s.waiting x false e)

  -- who has stopped and is not x had stopped before
  had : (z : ℕ) → (z ≡ x → ⊥) → waiting' z ≡ false → s.waiting z ≡ false
  had z n h = sym (at_other s.waiting x false n) ∙ h

  -- an end that is x waited
  mover : (z : ℕ) → z ≡ x → s.waiting z ≡ true
  mover z e = ap s.waiting e ∙ waited

  met' : (j : ℕ) (c : Bool) → j < t.links → waiting' (source t j c) ≡ false → waiting' (target t j c) ≡ false → s.child j c ≡ false → s.child j (not c) ≡ false → sent j c ≡ none → s.contending (target t j c) ≡ true
  met' j c lj w w' p q =
      sent_elim
      (λ m. m ≡ none → s.contending (target t j c) ≡ true) j c lj
      (λ e. loaded (sends_something (s.child j (not c))))
      (λ n r.
      either
      (ℕ_discrete (target t j c) x)
      (λ e.
      ⊎_elim
      (λ r'. loaded refl (sym r' ∙ r))
      (λ h. clash h p)
      (L.told j c lj (had (source t j c) n w) (mover (target t j c) e)))
      (λ n'. L.met j c lj (had (source t j c) n w) (had (target t j c) n' w') p q r))

  pub local_children_known : Local t (effect t s (children_known x))
  unfolding effect
  local_children_known =
      record {
        silent =
            λ j c lj w.
            sent_elim
            (λ m. m ≡ none) j c lj
            (λ e. absurd (not_mover (source t j c) w e))
            (λ n. L.silent j c lj (did (source t j c) w));
        childless = λ j c lj w. L.childless j c lj (did (source t j c) w);
        one_way = L.one_way;
        quiet =
            λ j c lj h.
            sent_elim
            (λ m. m ≡ none) j c lj
            (λ e. clash h (L.childless j c lj (mover (source t j c) e)))
            (λ n. L.quiet j c lj h);
        asked =
            λ j c lj.
            sent_elim
            (λ m. m ≡ request → s.child j (not c) ≡ false) j c lj
            (λ e. sends_request (s.child j (not c)))
            (λ n. L.asked j c lj);
        answered =
            λ j c lj.
            sent_elim
            (λ m. m ≡ acknowledgement → s.child j (not c) ≡ true) j c lj
            (λ e. sends_acknowledgement (s.child j (not c)))
            (λ n. L.answered j c lj);
        told =
            λ j c lj w w'.
            sent_elim
            (λ m. (m ≡ request) ⊎ (s.child j c ≡ true)) j c lj
            (λ e. inl (ap sends (L.childless j (not c) lj (did (target t j c) w'))))
            (λ n. L.told j c lj (had (source t j c) n w) (did (target t j c) w'));
        met = met';
        settled = λ z lz h. waits (λ r. r ≡ false) z (λ e. refl) (λ n. L.settled z lz h);
        free = L.free;
        calm = λ j c lj w. L.calm j c lj (did (source t j c) w);
        heard =
            λ j c lj h.
            sent_elim
            (λ m. m ≡ none) j c lj
            (λ e. clash h (L.calm j c lj (mover (source t j c) e)))
            (λ n. L.heard j c lj h);
        at_most_one =
            λ z lz.
            waits
            (λ r. r ≡ false → unheard t s z ≤ 1) z
            (λ e h. rw e (children_known_possible t s x can).2)
            (λ n. L.at_most_one z lz);
        rooted = L.rooted;
      }

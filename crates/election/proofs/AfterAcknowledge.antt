-- The local facts are kept when a message is acknowledged.
use Prim.Native.Nat.{ℕ, ◌<◌}
use mathlib.Core.Bool.{Bool, true, false, not}
use mathlib.Core.Path.{◌≡◌, refl, sym, ap, ◌∙◌}
use mathlib.Core.Logic.{inl, inr, ⊎_elim}
use Rattle.paper.specs.Table.{Table, source, target, EndsBelow}
use Rattle.paper.specs.State.{none, request, acknowledgement, State}
use Rattle.paper.specs.Steps.{carries, is_request, at, acknowledge, possible, effect}
use mathlib.Core.Bool.{not-not}
use Rattle.counting.proofs.Booleans.{clash}
use Rattle.paper.proofs.Changes.{at_elim}
use Rattle.election.specs.Local.{Local}
use Rattle.election.proofs.Updates.{fails, target_back, either, Same, same}
use Rattle.election.proofs.Messages.{loaded, kind, requested}
use Rattle.election.proofs.Possible.{acknowledge_possible}
use Rattle.election.proofs.ChildMark.{turned}
use Rattle.election.proofs.MessageRead.{unread, unread_on, unread_off, still_none, was}
use Rattle.election.proofs.OneUnheard.{rest_child}

module _ (t : Table) (s : State) (below : EndsBelow t) (i : ℕ) (b : Bool) (L : Local t s) (can : possible t s (acknowledge i b) ≡ true) where
  lt : i < t.links
  lt = (acknowledge_possible t s i b can).0

  -- the target and the source have stopped waiting
  target_stopped : s.waiting (target t i b) ≡ false
  target_stopped = (acknowledge_possible t s i b can).1

  full : carries (s.message i b) ≡ true
  full = (acknowledge_possible t s i b can).2

  source_stopped : s.waiting (source t i b) ≡ false
  source_stopped = fails (s.waiting (source t i b)) (λ w. loaded full (L.silent i b lt w))

  -- the direction is not child, so that every other one into its target is
  lacking : s.child i b ≡ false
  lacking = fails (s.child i b) (λ h. loaded full (L.quiet i b lt h))

  others : (j : ℕ) (c : Bool) → j < t.links → target t j c ≡ target t i b → (Same i b j c → ⊥) → s.child j c ≡ true
  others = rest_child t s below L (target t i b) target_stopped i b lt refl lacking

  -- who contends after the step
  abbrev contending' : ℕ → Bool
  contending' = at s.contending (target t i b) (is_request (s.message i b))

  -- what held of contending nodes holds after the step, where it holds of the target
  contends : (P : Bool → Type 0) (x : ℕ) → (x ≡ target t i b → P (is_request (s.message i b))) → ((x ≡ target t i b → ⊥) → P (s.contending x)) → P (contending' x)
  contends P = at_elim P s.contending (target t i b) (is_request (s.message i b))

  met' : (j : ℕ) (c : Bool) → j < t.links → s.waiting (source t j c) ≡ false → s.waiting (target t j c) ≡ false → s.child j c ≡ false → s.child j (not c) ≡ false → unread s i b j c ≡ none → contending' (target t j c) ≡ true
  met' j c lj w w' p q r =
      contends
      (λ r. r ≡ true) (target t j c)
      (λ into.
      either (same i b j c)
      (λ e.
      ⊎_elim (ap is_request)
      (λ a. clash (L.answered i b lt a) (rw (e.0, e.1) at q))
      (kind (s.message i b) full))
      (λ n. clash (others j c lj into n) p))
      (λ other. L.met j c lj w w' p q (sym (unread_off s i b (λ e. other (rw (e.0, e.1)))) ∙ r))

  free' : (j : ℕ) (c : Bool) → j < t.links → contending' (source t j c) ≡ true → s.child j c ≡ false
  free' j c lj =
      contends
      (λ r. r ≡ true → s.child j c ≡ false) (source t j c)
      (λ from h.
      either
      (same i b j (not c))
      (λ e. let back = turned c e in rw (back.0, back.1) (L.asked i b lt (requested (s.message i b) h)))
      (λ n. ap (s.child j) (sym (not-not c)) ∙ L.one_way j (not c) lj (others j (not c) lj (target_back t j c ∙ from) n)))
      (λ other. L.free j c lj)

  pub local_acknowledge : Local t (effect t s (acknowledge i b))
  unfolding effect
  local_acknowledge =
      record {
        silent = λ j c lj w. still_none s i b j c (L.silent j c lj w);
        childless = L.childless;
        one_way = L.one_way;
        quiet = λ j c lj h. still_none s i b j c (L.quiet j c lj h);
        asked = λ j c lj h. L.asked j c lj (was s i b request refl j c h);
        answered = λ j c lj h. L.answered j c lj (was s i b acknowledgement refl j c h);
        told =
            λ j c lj w w'.
            ⊎_elim
            (λ r. inl (unread_off s i b (λ e. clash (rw (e.0, e.1) at w') target_stopped) ∙ r))
            (λ h. inr h)
            (L.told j c lj w w');
        met = met';
        settled =
            λ x lx. contends (λ r. r ≡ true → s.waiting x ≡ false) x (λ e h. rw e target_stopped) (λ n. L.settled x lx);
        free = free';
        calm =
            λ j c lj w.
            contends
            (λ r. r ≡ false) (target t j c)
            (λ into.
            either (same i b j c)
            (λ e. clash (rw (e.0, e.1) at w) source_stopped)
            (λ n. clash (others j c lj into n) (L.childless j c lj w)))
            (λ n. L.calm j c lj w);
        heard =
            λ j c lj.
            contends
            (λ r. r ≡ true → unread s i b j c ≡ none) (target t j c)
            (λ into h.
            either (same i b j c) (unread_on s i b)
            (λ n. still_none s i b j c (L.quiet j c lj (others j c lj into n))))
            (λ n h. still_none s i b j c (L.heard j c lj h));
        at_most_one = L.at_most_one;
        rooted = L.rooted;
      }

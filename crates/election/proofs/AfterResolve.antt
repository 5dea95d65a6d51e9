-- The local facts are kept when a contention is resolved.
use Prim.Native.Nat.{ℕ, ◌<◌}
use mathlib.Core.Bool.{Bool, true, false, not}
use mathlib.Core.Path.{◌≡◌, refl, sym, ap, ◌∙◌}
use mathlib.Core.Logic.{◌⊎◌, inl, inr, ⊎_elim}
use Rattle.paper.specs.Table.{Table, source, target, EndsBelow}
use Rattle.paper.specs.State.{State}
use Rattle.paper.specs.Steps.{at, resolve, possible, effect}
use Rattle.counting.proofs.Booleans.{clash}
use Rattle.paper.proofs.Changes.{at_elim}
use Rattle.election.specs.Local.{Local}
use Rattle.election.proofs.Updates.{target_back, either, Same, same}
use Rattle.election.proofs.Possible.{resolve_possible}
use Rattle.election.proofs.ChildMark.{turned_back, marked_off, kept, absent, not_new, marked_sourced, marked_at_most_one, marked_one_way, marked_asked}
use Rattle.election.proofs.OneUnheard.{rest_child}

module _ (t : Table) (s : State) (below : EndsBelow t) (i : ℕ) (b : Bool) (L : Local t s) (can : possible t s (resolve i b) ≡ true) where
  lt : i < t.links
  lt = (resolve_possible t s i b can).0

  source_contends : s.contending (source t i b) ≡ true
  source_contends = (resolve_possible t s i b can).1

  target_contends : s.contending (target t i b) ≡ true
  target_contends = (resolve_possible t s i b can).2

  -- both ends have stopped waiting
  source_stopped : s.waiting (source t i b) ≡ false
  source_stopped = L.settled (source t i b) (below i b lt) source_contends

  target_stopped : s.waiting (target t i b) ≡ false
  target_stopped = L.settled (target t i b) (below i (not b) lt) target_contends

  -- the link has no child mark
  here : s.child i b ≡ false
  here = L.free i b lt source_contends

  back : s.child i (not b) ≡ false
  back = L.free i (not b) lt target_contends

  -- every other direction into either end is child
  others : (j : ℕ) (c : Bool) → j < t.links → target t j c ≡ target t i b → (Same i b j c → ⊥) → s.child j c ≡ true
  others = rest_child t s below L (target t i b) target_stopped i b lt refl here

  others_back : (j : ℕ) (c : Bool) → j < t.links → target t j c ≡ source t i b → (Same i (not b) j c → ⊥) → s.child j c ≡ true
  others_back = rest_child t s below L (source t i b) source_stopped i (not b) lt (target_back t i b) back

  -- who contends after the step: neither end, and who else did before
  abbrev contending' : ℕ → Bool
  contending' = at (at s.contending (source t i b) false) (target t i b) false

  contends : (P : Bool → Type 0) (x : ℕ) → ((x ≡ source t i b) ⊎ (x ≡ target t i b) → P false) → ((x ≡ source t i b → ⊥) → (x ≡ target t i b → ⊥) → P (s.contending x)) → P (contending' x)
  contends P x end other =
      at_elim P (at s.contending (source t i b) false) (target t i b) false x
      (λ e. end (inr e))
      (λ n. at_elim P s.contending (source t i b) false x (λ e. end (inl e)) (λ n'. other n' n))

  -- who contends did before
  did : (x : ℕ) → contending' x ≡ true → s.contending x ≡ true
  did x = contends (λ r. r ≡ true → s.contending x ≡ true) x (λ e h. clash h refl) (λ n n' h. h)

  pub local_resolve : Local t (effect t s (resolve i b))
  unfolding effect
  local_resolve =
      record {
        silent = L.silent;
        childless = marked_sourced s i b t s.waiting source_stopped L.childless;
        one_way = marked_one_way s i b t L back;
        quiet =
            λ j c lj h.
            either (same i b j c)
            (λ e. rw (e.0, e.1) (L.heard i b lt target_contends))
            (λ n. L.quiet j c lj (sym (marked_off s i b n) ∙ h));
        asked = marked_asked s i b t L back (L.heard i (not b) lt (ap s.contending (target_back t i b) ∙ source_contends));
        answered = λ j c lj h. kept s i b j (not c) (L.answered j c lj h);
        told = λ j c lj w w'. ⊎_elim (λ r. inl r) (λ h. inr (kept s i b j c h)) (L.told j c lj w w');
        met =
            λ j c lj w w' p q r.
            contends
            (λ r. r ≡ true) (target t j c)
            (λ e.
            clash
            (⊎_elim
            (λ from. others_back j c lj from (λ d. not_new s i b j (not c) q (turned_back d)))
            (λ into. others j c lj into (not_new s i b j c p))
            e)
            (absent s i b j c p))
            (λ n n'. L.met j c lj w w' (absent s i b j c p) (absent s i b j (not c) q) r);
        settled = λ x lx h. L.settled x lx (did x h);
        free =
            marked_sourced s i b t contending'
            (contends (λ r. r ≡ false) (source t i b) (λ e. refl) (λ n n'. absurd (n refl)))
            (λ j c lj h. L.free j c lj (did (source t j c) h));
        calm = λ j c lj w. contends (λ r. r ≡ false) (target t j c) (λ e. refl) (λ n n'. L.calm j c lj w);
        heard = λ j c lj h. L.heard j c lj (did (target t j c) h);
        at_most_one = marked_at_most_one s i b t L;
        rooted = λ j c lj h. kept s i b j c (L.rooted j c lj h);
      }

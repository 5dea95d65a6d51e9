-- The local facts are kept when a child is added.
use Prim.Native.Nat.{ℕ, ◌<◌}
use mathlib.Core.Bool.{Bool, true, false, not}
use mathlib.Core.Path.{◌≡◌, refl, sym, ap, ◌∙◌}
use mathlib.Core.Logic.{inl, inr, ⊎_elim}
use Rattle.paper.specs.Table.{Table, source, target}
use Rattle.paper.specs.State.{request, acknowledgement, State}
use Rattle.paper.specs.Steps.{add_child, possible, effect}
use Rattle.election.specs.Local.{Local}
use Rattle.election.proofs.Updates.{fails, target_back, either, same}
use Rattle.election.proofs.Messages.{loaded}
use Rattle.election.proofs.Possible.{add_child_possible}
use Rattle.election.proofs.ChildMark.{marked_on, marked_off, kept, absent, not_new, marked_sourced, marked_at_most_one, marked_one_way, marked_asked}
use Rattle.election.proofs.MessageRead.{unread_on, unread_off, still_none, was}

module _ (t : Table) (s : State) (i : ℕ) (b : Bool) (L : Local t s) (can : possible t s (add_child i b) ≡ true) where
  lt : i < t.links
  lt = (add_child_possible t s i b can).0

  receives : s.waiting (target t i b) ≡ true
  receives = (add_child_possible t s i b can).1

  -- the reverse has no child
  back : s.child i (not b) ≡ false
  back = L.childless i (not b) lt receives

  -- the source has stopped waiting, and does not contend
  stopped : s.waiting (source t i b) ≡ false
  stopped = fails (s.waiting (source t i b)) (λ w. loaded (add_child_possible t s i b can).2 (L.silent i b lt w))

  calmed : s.contending (source t i b) ≡ false
  calmed = ap s.contending (sym (target_back t i b)) ∙ L.calm i (not b) lt receives

  pub local_add_child : Local t (effect t s (add_child i b))
  unfolding effect
  local_add_child =
      record {
        silent = λ j c lj w. still_none s i b j c (L.silent j c lj w);
        childless = marked_sourced s i b t s.waiting stopped L.childless;
        one_way = marked_one_way s i b t L back;
        quiet =
            λ j c lj h.
            either (same i b j c) (unread_on s i b)
            (λ n. unread_off s i b n ∙ L.quiet j c lj (sym (marked_off s i b n) ∙ h));
        asked = λ j c lj h. marked_asked s i b t L back (L.silent i (not b) lt receives) j c lj (was s i b request refl j c h);
        answered = λ j c lj h. kept s i b j (not c) (L.answered j c lj (was s i b acknowledgement refl j c h));
        told =
            λ j c lj w w'.
            either (same i b j c)
            (λ e. inr (marked_on s i b e))
            (λ n. ⊎_elim (λ r. inl (unread_off s i b n ∙ r)) (λ h. inr (kept s i b j c h)) (L.told j c lj w w'));
        met =
            λ j c lj w w' p q r.
            L.met j c lj w w' (absent s i b j c p)
            (absent s i b j (not c) q)
            (sym (unread_off s i b (not_new s i b j c p)) ∙ r);
        settled = L.settled;
        free = marked_sourced s i b t s.contending calmed L.free;
        calm = L.calm;
        heard = λ j c lj h. still_none s i b j c (L.heard j c lj h);
        at_most_one = marked_at_most_one s i b t L;
        rooted = λ j c lj h. kept s i b j c (L.rooted j c lj h);
      }

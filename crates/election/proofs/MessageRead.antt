-- A message that is read and so removed.
use Prim.Native.Nat.{ℕ}
use mathlib.Core.Bool.{Bool, true}
use mathlib.Core.Path.{◌≡◌, refl, sym, ◌∙◌}
use Rattle.paper.specs.State.{Message, none, State}
use Rattle.paper.specs.Steps.{carries, at_direction}
use Rattle.election.proofs.Updates.{either, Same, same, on_direction, off_direction, direction_elim}
use Rattle.election.proofs.Messages.{loaded}

module _ (s : State) (i : ℕ) (b : Bool) where
  -- the messages without the one on (i, b)
  abbrev pub unread : ℕ → Bool → Message
  unread = at_direction s.message i b none

  pub unread_on : {j : ℕ} {c : Bool} → Same i b j c → unread j c ≡ none
  unread_on = on_direction s.message i b none

  pub unread_off : {j : ℕ} {c : Bool} → (Same i b j c → ⊥) → unread j c ≡ s.message j c
  unread_off = off_direction s.message i b none

  -- where there was none there is none
  pub still_none : (j : ℕ) (c : Bool) → s.message j c ≡ none → unread j c ≡ none
  still_none j c h = direction_elim s.message i b none (λ m. m ≡ none) j c (λ e. refl) (λ n. h)

  -- a message that is there was there
  pub was : (m : Message) → carries m ≡ true → (j : ℕ) (c : Bool) → unread j c ≡ m → s.message j c ≡ m
  was m full j c h =
      either (same i b j c) (λ e. loaded full (sym h ∙ unread_on e)) (λ n. sym (unread_off n) ∙ h)

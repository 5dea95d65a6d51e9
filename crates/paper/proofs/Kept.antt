-- No mark outside the table, and sound marks: kept by every action that can be taken and by every run.
use Prim.Native.Nat.{ℕ}
use mathlib.Core.Bool.{Bool, true, false, cond}
use mathlib.Core.Path.{◌≡◌, refl}
use mathlib.Core.List.{List, [], ◌∷◌}
use native.Mathlib.Omega.{arith}
use Rattle.counting.proofs.Booleans.{and_left, and_right}
use Rattle.paper.specs.Table.{Table, EndsBelow}
use Rattle.paper.specs.State.{State, fresh}
use Rattle.paper.specs.Steps.{Step, possible, effect, after, taken, Run}
use Rattle.paper.specs.Actions.{Reading, names, unread, refused_by, state_after}
use Rattle.paper.specs.Meanings.{Shown, SoundMarks}
use Rattle.paper.proofs.Images.{shown_fresh, shown_effect, sound_fresh, sound_kept}

-- an action that names a step and can be taken: the step is possible
pub possible_taken : (t : Table) (s : State) (x : Step) → refused_by t s (names x) ≡ 0 → possible t s x ≡ true
possible_taken t s x = go (possible t s x)
  where
    go : (c : Bool) → ◌≡◌ {A = ℕ} (cond c 0 11) 0 → c ≡ true
    go true e = refl
    go false e = absurd (omega arith)

pub shown_state_after : (t : Table) (s : State) (r : Reading) → EndsBelow t → Shown t s → refused_by t s r ≡ 0 → Shown t (state_after t s r)
shown_state_after t s (names x) ends shown e = shown_effect t s x ends shown (possible_taken t s x e)
shown_state_after t s (unread number) ends shown e = shown

pub sound_state_after : (t : Table) (s : State) (r : Reading) → SoundMarks t s → SoundMarks t (state_after t s r)
sound_state_after t s (names x) marks = sound_kept t s x marks
sound_state_after t s (unread number) marks = marks

pub shown_after : (t : Table) (s : State) (xs : List Step) → EndsBelow t → Shown t s → taken t s xs ≡ true → Shown t (after t s xs)
unfolding taken after
shown_after t s [] ends shown e = shown
shown_after t s (x ∷ xs) ends shown e =
    shown_after t (effect t s x) xs ends (shown_effect t s x ends shown (and_left (possible t s x) _ e)) (and_right (possible t s x) _ e)

pub sound_after : (t : Table) (s : State) (xs : List Step) → SoundMarks t s → SoundMarks t (after t s xs)
unfolding after
sound_after t s [] marks = marks
sound_after t s (x ∷ xs) marks = sound_after t (effect t s x) xs (sound_kept t s x marks)

pub shown_run : (t : Table) (xs : List Step) → EndsBelow t → Run t xs → Shown t (after t (fresh t) xs)
shown_run t xs ends run = shown_after t (fresh t) xs ends (shown_fresh t) run

pub sound_run : (t : Table) (xs : List Step) → SoundMarks t (after t (fresh t) xs)
sound_run t xs = sound_after t (fresh t) xs (sound_fresh t)

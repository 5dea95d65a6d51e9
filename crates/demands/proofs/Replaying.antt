-- The actions of a replay in turn: the first that is refused, or all taken.
use Prim.Native.Nat.{ℕ, zero, suc, ◌+◌, ◌-◌}
use mathlib.Core.Path.{subst⁻¹, ◌≡◌, sym, ap, subst, ◌∙◌}
use mathlib.Core.Logic.{◌⊎◌, inl, inr}
use mathlib.Core.List.{List}
use native.Mathlib.Omega.{arith}
use Rattle.paper.specs.Upload.{actions_of}
use Rattle.paper.specs.Table.{table_of}
use Rattle.paper.specs.State.{State, fresh}
use Rattle.paper.specs.Actions.{refused_by, state_after}
use Rattle.paper.specs.Refusals.{accepted}
use Rattle.paper.specs.Calls.{action_of, replay_from, replayed}
use Rattle.paper.specs.Meanings.{SoundMarks}
use Rattle.paper.proofs.Images.{sound_fresh, sound_kept}
use Rattle.cabling.specs.Accepted.{Accepted}
use Rattle.replay.proofs.Folds.{replay_stops, replay_goes_on}
use Rattle.demands.specs.ExactlyWhen.{ActionRefused, ActionTaken, kind_at, first_at, second_at, Taken, at_first, and_then, ReplayRefused, AllTaken}
use Rattle.demands.proofs.OneAction.{action_given, action_passes, action_leads, action_either, action_number}

module _ (upload : List ℕ) (known : Accepted upload) where
  -- the states that actions lead to have sound marks
  taken_sound : {i : ℕ} {s : State} → Taken upload i s → SoundMarks (table_of upload) s
  taken_sound at_first = sound_fresh (table_of upload)
  taken_sound (and_then {i} {s} {next} before h) =
      subst⁻¹ (SoundMarks (table_of upload)) h.leads (sound_kept (table_of upload) s h.step (taken_sound before))

  -- what is known of one action of the upload
  given_at : (s : State) (i : ℕ) {number : ℕ} → SoundMarks (table_of upload) s → ActionRefused (table_of upload) s (kind_at upload i) (first_at upload i) (second_at upload i) number → refused_by (table_of upload) s (action_of upload i) ≡ number
  given_at s i marks = action_given (table_of upload) known.ends known.no_self known.no_repeat (kind_at upload i) (first_at upload i) (second_at upload i) s marks

  -- the replay comes to where the actions taken have led
  reaches : {i : ℕ} {s : State} → Taken upload i s → (k total : ℕ) → total ≡ i + k → replay_from upload (fresh (table_of upload)) 0 total ≡ replay_from upload s i k
  reaches at_first k total e = let same : total ≡ k = omega arith in ap (replay_from upload (fresh (table_of upload)) 0) same
  reaches (and_then {i} {s} {next} before h) k total e =
      let t = table_of upload in
      reaches before (suc k) total (omega arith)
      ∙ replay_goes_on upload s i k (action_passes t known.ends known.no_self known.no_repeat (kind_at upload i) (first_at upload i) (second_at upload i) s (taken_sound before) h)
      ∙ ap (λ (r : State). replay_from upload r (suc i) k) (action_leads t known.ends known.no_self known.no_repeat (kind_at upload i) (first_at upload i) (second_at upload i) s h)

  -- at a refused action the replay stops, with as many steps as actions taken and the state before it
  pub replay_refused : {number i : ℕ} (h : ReplayRefused upload number i) → replayed upload ≡ record { refusal = record { number = number; place = i }; steps = i; state = h.before }
  unfolding replayed
  replay_refused {number} {i} h =
      let g = given_at h.before i (taken_sound h.earlier) h.refused in
      let there = h.there in
      let range = action_number h.refused in
      reaches h.earlier (suc (actions_of upload - suc i)) (actions_of upload) (omega arith)
      ∙ replay_stops upload h.before i (actions_of upload - suc i) (λ z. let none = sym g ∙ z in omega (arith, range.0))
      ∙ ap (λ (k : ℕ). record { refusal = record { number = k; place = i }; steps = i; state = h.before }) g

  pub replay_all : (h : AllTaken upload) → replayed upload ≡ record { refusal = accepted; steps = actions_of upload; state = h.end }
  unfolding replayed replay_from
  replay_all h = reaches h.all 0 (actions_of upload) (omega arith)

  -- the k actions from action i on
  search_from : (i k : ℕ) (s : State) → Taken upload i s → i + k ≡ actions_of upload → AllTaken upload ⊎ ((number : ℕ) × (place : ℕ) × ReplayRefused upload number place)
  search_from i zero s before e = let last : i ≡ actions_of upload = omega arith in inl (record { end = s; all = subst (λ j. Taken upload j s) last before })
  search_from i (suc k) s before e =
      let t = table_of upload in
      go
      (action_either t known.ends known.no_self known.no_repeat (kind_at upload i) (first_at upload i) (second_at upload i) s (taken_sound before))
      (λ next h. search_from (suc i) k next (and_then before h) (omega arith))
    where
      go : ActionTaken (table_of upload) s (kind_at upload i) (first_at upload i) (second_at upload i) (state_after (table_of upload) s (action_of upload i)) ⊎ ((number : ℕ) × ActionRefused (table_of upload) s (kind_at upload i) (first_at upload i) (second_at upload i) number) → ((next : State) → ActionTaken (table_of upload) s (kind_at upload i) (first_at upload i) (second_at upload i) next → AllTaken upload ⊎ ((number : ℕ) × (place : ℕ) × ReplayRefused upload number place)) → AllTaken upload ⊎ ((number : ℕ) × (place : ℕ) × ReplayRefused upload number place)
      go (inl h) on = on _ h
      go (inr h) on = inr (h.0, i, record { there = omega arith; before = s; earlier = before; refused = h.1 })

  pub replay_either : AllTaken upload ⊎ ((number : ℕ) × (place : ℕ) × ReplayRefused upload number place)
  replay_either = search_from 0 (actions_of upload) (fresh (table_of upload)) at_first (omega arith)

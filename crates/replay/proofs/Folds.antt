-- One action of a replay, and one step of the runner.
use Prim.Native.Nat.{ℕ, suc}
use mathlib.Core.Path.{◌≡◌}
use mathlib.Core.List.{List, [], ◌∷◌}
use borrow.Author.Tests.{eq-eqb, ne_eqb}
use Rattle.paper.specs.Upload.{byte_at}
use Rattle.paper.specs.Table.{Table, table_of}
use Rattle.paper.specs.State.{State}
use Rattle.paper.specs.Actions.{reading, refused_by, state_after, listed}
use Rattle.paper.specs.Runner.{run_from}
use Rattle.paper.specs.Calls.{action_of, replay_from}

module _ (upload : List ℕ) (s : State) (i k : ℕ) where
  -- an action that is refused ends the replay before it
  pub replay_stops : (refused_by (table_of upload) s (action_of upload i) ≡ 0 → ⊥) → replay_from upload s i (suc k) ≡ record { refusal = record { number = refused_by (table_of upload) s (action_of upload i); place = i }; steps = i; state = s }
  unfolding replay_from
  replay_stops h = rw (ne_eqb (refused_by (table_of upload) s (action_of upload i)) 0 h)

  -- one that is taken leads on to the next
  pub replay_goes_on : refused_by (table_of upload) s (action_of upload i) ≡ 0 → replay_from upload s i (suc k) ≡ replay_from upload (state_after (table_of upload) s (action_of upload i)) (suc i) k
  unfolding replay_from
  replay_goes_on h = rw (eq-eqb (refused_by (table_of upload) s (action_of upload i)) 0 h)

module _ (t : Table) (left : ℕ) (s : State) (taken : ℕ) where
  -- the runner stops where nothing is listed
  pub run_stops : listed t s ≡ [] → run_from t (suc left) s taken ≡ record { state = s; steps = taken }
  unfolding run_from
  run_stops e = rw (e, run_from)

  -- and takes the first listed step
  pub run_goes_on : (kind : ℕ) (rest : List ℕ) → listed t s ≡ kind ∷ rest → run_from t (suc left) s taken ≡ run_from t left (state_after t s (reading t kind (byte_at rest 0) (byte_at rest 1))) (suc taken)
  unfolding run_from
  run_goes_on kind rest e = rw (e, run_from)

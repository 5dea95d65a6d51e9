-- The runner: from the fresh state, the first listed step until none is left.
use Rattle.std.specs.Prelude.{ℕ, zero, suc, ◌+◌, ◌*◌, [], ◌∷◌}
use Rattle.paper.specs.Upload.{byte_at}
use Rattle.paper.specs.Table.{Table}
use Rattle.paper.specs.State.{State, fresh}
use Rattle.paper.specs.Actions.{reading, state_after, listed}

-- where a runner has come to, and after how many steps
pub record Ran : Type 0 where
  pub state : State
  pub steps : ℕ

-- at most so many steps more, from a state after so many
unfoldable pub run_from : Table → ℕ → State → ℕ → Ran
run_from t zero s taken = record { state = s; steps = taken }
run_from t (suc left) s taken =
    elim (listed t s) [
      | [] ↦ record { state = s; steps = taken }
      | kind ∷ rest ↦ run_from t left (state_after t s (reading t kind (byte_at rest 0) (byte_at rest 1))) (suc taken)
    ]

-- no run from a sound state is longer than 5n + 4m, so the bound stops none
abbrev pub longest : Table → ℕ
longest t = 5 * t.nodes + 4 * t.links

unfoldable pub runner : Table → Ran
runner t = run_from t (longest t) (fresh t) 0

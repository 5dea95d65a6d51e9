-- Runs and logs are the same thing.
use Prim.Native.Nat.{ℕ}
use mathlib.Core.Bool.{Bool, true, false, cond}
use mathlib.Core.Path.{◌≡◌, refl, sym, ap, ◌∙◌}
use mathlib.Core.Logic.{inl, inr}
use mathlib.Core.List.{List, [], ◌∷◌}
use lib.Dec.{eqb}
use borrow.Author.Tests.{eqb-true, eq-eqb}
use Rattle.paper.specs.Table.{table_of}
use Rattle.paper.specs.Steps.{Step}
use Rattle.paper.specs.Refusals.{Refusal, accepted, first, refusal, table_refusal}
use Rattle.paper.specs.Calls.{answered, trying, replayed, replay_behind, replay_answer}
use Rattle.counting.proofs.Booleans.{clash}
use Rattle.election.specs.Demand.{LogIsRun, RunsAndLogs}
use Rattle.election.proofs.Replays.{replay_run}
use Rattle.election.proofs.Refused.{Behind, behind, answered_refusal}
use Rattle.election.proofs.LogOf.{is_log}

-- the refusal of a replay
abbrev pub replay_refusal : List ℕ → Refusal
replay_refusal upload = refusal upload (trying accepted (replayed upload).refusal accepted)

replay_refusal_is : (upload : List ℕ) → (replay_answer upload).refusal ≡ (replay_refusal upload).number
unfolding replay_behind
replay_refusal_is upload = answered_refusal (replay_refusal upload) (replayed upload).steps (table_of upload) (replayed upload).state

-- an accepted replay: the table is accepted, and so is every action
pub replay_accepted : (upload : List ℕ) → (replay_answer upload).refusal ≡ 0 → ((table_refusal upload).number ≡ 0) × ((replayed upload).refusal.number ≡ 0) × (replay_refusal upload ≡ accepted)
replay_accepted upload h = go (behind upload accepted (replayed upload).refusal)
  where
    none : (replay_refusal upload).number ≡ 0
    none = sym (replay_refusal_is upload) ∙ h

    action : (r : Refusal) → (first (accepted ∷ r ∷ accepted ∷ [])).number ≡ 0 → (r.number ≡ 0) × (first (accepted ∷ r ∷ accepted ∷ []) ≡ accepted)
    action r e = go (eqb r.number 0) refl e
      where
        go : (c : Bool) → eqb r.number 0 ≡ c → (cond c accepted r).number ≡ 0 → (r.number ≡ 0) × (cond (eqb r.number 0) accepted r ≡ accepted)
        go true f z = (eqb-true _ 0 f, ap (λ c. cond c accepted r) f)
        go false f z = clash (eq-eqb _ 0 z) f

    go : Behind upload accepted (replayed upload).refusal → ((table_refusal upload).number ≡ 0) × ((replayed upload).refusal.number ≡ 0) × (replay_refusal upload ≡ accepted)
    go (inl (z, e)) =
        let (w, f) = action (replayed upload).refusal (sym (ap (λ (r : Refusal). r.number) e) ∙ none) in (z, w, e ∙ f)
    go (inr (z, e)) = absurd (z (sym (ap (λ (r : Refusal). r.number) e) ∙ none))

-- every log whose replay is accepted is a run
pub log_is_run : (upload : List ℕ) → (replay_answer upload).refusal ≡ 0 → (xs : List Step) × LogIsRun upload xs
unfolding replay_behind
log_is_run upload h =
    let (xs, run, all) = replay_run upload in
    let (z, w, e) = replay_accepted upload h in
    (xs, record { replays = run; every = all w; answer = λ i. answered (e i) (run.steps i) (table_of upload) (run.state i) })

pub runs_and_logs : RunsAndLogs
runs_and_logs =
    record {
      replays_are_runs = λ upload. let (xs, run, all) = replay_run upload in (xs, run);
      logs_are_runs = log_is_run;
      runs_are_logs = λ u good xs run. (_, is_log u good xs run);
    }

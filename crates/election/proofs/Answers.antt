-- What the calls answer, of every table and every log.
use Prim.Native.Nat.{ℕ, ◌+◌, ◌*◌, ◌≤◌, ◌<◌}
use mathlib.Core.Bool.{Bool, true, false, cond}
use mathlib.Core.Path.{◌≡◌, refl, sym, ap, subst, ◌∙◌}
use mathlib.Core.Logic.{inl, inr}
use mathlib.Core.List.{List, []}
use native.Mathlib.Omega.{arith}
use native.Mathlib.Decide.{ℕ_discrete}
use lib.ListN.{length}
use borrow.Author.Tests.{lt-ltb, le-leb}
use Rattle.counting.proofs.Sums.{count_none}
use Rattle.paper.specs.Upload.{nodes_of}
use Rattle.paper.specs.Table.{Table, table_of}
use Rattle.paper.specs.State.{State, fresh}
use Rattle.paper.specs.Steps.{Step, Run, Still}
use Rattle.paper.specs.Stuck.{Stuck, size}
use Rattle.paper.specs.Report.{roots, waiting_count, outcome_of, outcome_at_rest}
use Rattle.paper.specs.Actions.{listed}
use Rattle.paper.specs.Runner.{longest, runner}
use Rattle.paper.specs.Refusals.{Refusal, accepted, given, refusal, table_refusal, length_refusal}
use Rattle.paper.specs.Calls.{refused_with, reported, answered, has_state, fresh_refusal, run_answer, replayed, replay_behind, replay_answer}
use Rattle.paper.specs.Batch.{header_wrong, span_outside, part_of, entry_answer}
use Rattle.counting.proofs.Booleans.{clash}
use Rattle.paper.proofs.Images.{sound_fresh}
use Rattle.paper.proofs.Moving.{moving_still}
use Rattle.cabling.specs.Accepted.{Accepted}
use Rattle.table.proofs.Laws.{accepted_laws}
use Rattle.election.specs.Demand.{reached_by, Ended, Demand, RunnerStops, RunnerEnds, RunAnswers, ReplayAnswers, EntryAnswers, Calls}
use Rattle.election.proofs.Election.{few_roots, demand}
use Rattle.election.proofs.Replays.{replay_run}
use Rattle.election.proofs.Runner.{runs, runner_still}
use Rattle.election.proofs.Refused.{Behind, behind, no_state, answered_refusal, answered_accepted}
use Rattle.election.proofs.Logs.{replay_refusal}

-- demand 3 holds of every accepted table
pub accepted_demand : (upload : List ℕ) → (table_refusal upload).number ≡ 0 → Demand (table_of upload)
accepted_demand upload good =
    let laws = accepted_laws upload good in
    demand (table_of upload) laws.some_node laws.ends laws.no_self laws.piece

-- an answer with a state reports it, and one without reports nothing
answered_elim : (P : ℕ → ℕ → Type 0) (r : Refusal) (steps : ℕ) (t : Table) (s : State) → (has_state r ≡ true → P steps (outcome_of t s)) → P 0 0 → P (answered r steps t s).steps (answered r steps t s).outcome
answered_elim P r steps t s state none = go (has_state r) refl
  where
    go : (c : Bool) → has_state r ≡ c → P (cond c (reported r steps t s) (refused_with r)).steps (cond c (reported r steps t s) (refused_with r)).outcome
    go true e = state e
    go false e = none

-- what holds of every run of an accepted table, and of an answer without a state, holds of every replay
replay_elim : (upload : List ℕ) (P : ℕ → ℕ → Type 0) → ((table_refusal upload).number ≡ 0 → (xs : List Step) → Run (table_of upload) xs → P (length xs) (outcome_of (table_of upload) (reached_by (table_of upload) xs))) → P 0 0 → P (replay_answer upload).steps (replay_answer upload).outcome
unfolding replay_behind
replay_elim upload P runs none =
    answered_elim P (replay_refusal upload) (replayed upload).steps (table_of upload) (replayed upload).state (go (behind upload accepted (replayed upload).refusal)) none
  where
    go : Behind upload accepted (replayed upload).refusal → has_state (replay_refusal upload) ≡ true → P (replayed upload).steps (outcome_of (table_of upload) (replayed upload).state)
    go (inl (good, e)) h = let (xs, run, all) = replay_run upload in rw (run.steps, run.state) (runs good xs run.run)
    go (inr (bad, e)) h = clash h (ap has_state e ∙ no_state upload bad)

replay_answers : (upload : List ℕ) → ReplayAnswers upload
replay_answers upload =
    record {
      never_odd = replay_elim upload (λ steps outcome. outcome ≡ 4 → ⊥) (λ good. (accepted_demand upload good).never_odd) (λ e. omega arith);
      few_steps = replay_elim upload (λ steps outcome. steps ≤ 3 * nodes_of upload) (λ good. (accepted_demand upload good).few_steps) (omega arith);
      bounded_steps = replay_elim upload (λ steps outcome. steps ≤ 189) (λ good xs run. let few = (accepted_demand upload good).few_steps xs run in let fit = (accepted_laws upload good).nodes_fit in omega arith) (omega arith);
      few_roots =
          λ good.
          let laws = accepted_laws upload good in
          let (xs, run, all) = replay_run upload in
          rw run.state (few_roots (table_of upload) laws.some_node laws.ends laws.no_self laws.piece xs run.run);
    }

-- an entry is refused by 1 or 2, or is the replay of its part
entry_elim : (batch : List ℕ) (i : ℕ) (P : ℕ → ℕ → Type 0) → P 0 0 → P (replay_answer (part_of batch i)).steps (replay_answer (part_of batch i)).outcome → P (entry_answer batch i).steps (entry_answer batch i).outcome
unfolding entry_answer replay_behind refusal
entry_elim batch i P none replay = go (header_wrong batch) (span_outside batch i)
  where
    go : (c d : Bool) → let answer = replay_behind (given c 1 0) (given d 2 0) (part_of batch i) in P answer.steps answer.outcome
    go true d = none
    go false true = none
    go false false = replay

entry_answers : (batch : List ℕ) (i : ℕ) → EntryAnswers batch i
entry_answers batch i =
    record {
      never_odd = entry_elim batch i (λ steps outcome. outcome ≡ 4 → ⊥) (λ e. omega arith) (replay_answers (part_of batch i)).never_odd;
      bounded_steps = entry_elim batch i (λ steps outcome. steps ≤ 189) (omega arith) (replay_answers (part_of batch i)).bounded_steps;
    }

-- the outcome of a run that can go no further
module _ (t : Table) (d : Demand t) (xs : List Step) (ended : Ended t xs) where
  at_rest : outcome_of t (reached_by t xs) ≡ outcome_at_rest t.nodes t.links (roots t (reached_by t xs)) (waiting_count t (reached_by t xs))
  at_rest = ap (λ c. cond c 1 (outcome_at_rest t.nodes t.links (roots t (reached_by t xs)) (waiting_count t (reached_by t xs)))) ((moving_still t (reached_by t xs)).1 ended.1)

  root_outcome : t.links + 1 ≡ t.nodes → (outcome_of t (reached_by t xs) ≡ 2) × (waiting_count t (reached_by t xs) ≡ 0)
  root_outcome h =
      let w = (d.without_loop h).ends xs ended in
      (at_rest ∙ rw w.one_root refl, count_none t.nodes (reached_by t xs).waiting w.none_waits)

  loop_outcome : t.nodes ≤ t.links → (K : ℕ → Bool) → Stuck t K → (outcome_of t (reached_by t xs) ≡ 3) × (waiting_count t (reached_by t xs) ≡ size t K)
  loop_outcome loop K stuck =
      let w = d.with_loop loop K stuck in
      let some : 0 < waiting_count t (reached_by t xs) = positive (ℕ_discrete (size t K) 0) in
      (at_rest ∙ rw ((w.runs xs ended.0).no_root, lt-ltb 0 (waiting_count t (reached_by t xs)) some, le-leb t.nodes t.links loop) refl, (w.ends xs ended).size_waits)
    where
      positive : Dec (size t K ≡ 0) → 0 < waiting_count t (reached_by t xs)
      positive (yes z) = let h = (d.stuck_set.empty K stuck).0 z in absurd (omega arith)
      positive (no z) = let k = ((d.with_loop loop K stuck).ends xs ended).size_waits in omega arith

-- where the runner stops
module _ (upload : List ℕ) (good : (table_refusal upload).number ≡ 0) where
  laws : Accepted upload
  laws = accepted_laws upload good

  bytes : nodes_of upload ≤ 255
  bytes = let fit = laws.nodes_fit in omega arith

  stops : RunnerStops (table_of upload) (fresh (table_of upload))
  stops = runner_still (table_of upload) bytes laws.ends laws.no_self laws.no_repeat (fresh (table_of upload)) (sound_fresh (table_of upload))

  runner_lists_none : listed (table_of upload) (runner (table_of upload)).state ≡ []
  unfolding runner
  runner_lists_none = stops.lists_none

  runner_ended : RunnerEnds (table_of upload)
  unfolding runner
  runner_ended =
      let (xs, run) = runs (table_of upload) bytes laws.ends laws.no_self laws.no_repeat (longest (table_of upload)) (fresh (table_of upload)) 0 in
      let steps = run.steps in
      (xs, (run.taking, subst (Still (table_of upload)) run.state stops.still), omega arith, run.state)

run_answers : (upload image : List ℕ) → (run_answer upload image).refusal ≡ 0 → RunAnswers upload image
unfolding run_answer
run_answers upload image h =
    record {
      ended = end;
      lists_none = runner_lists_none upload good;
      without_loop = λ no_loop. let (outcome, waiting) = root_outcome (table_of upload) (accepted_demand upload good) end.0 end.1 no_loop in (reports ∙ outcome, waits ∙ waiting);
      with_loop = λ loop K stuck. let (outcome, waiting) = loop_outcome (table_of upload) (accepted_demand upload good) end.0 end.1 loop K stuck in (reports ∙ outcome, waits ∙ waiting);
    }
  where
    none : (fresh_refusal upload image).number ≡ 0
    none = sym (answered_refusal (fresh_refusal upload image) (runner (table_of upload)).steps (table_of upload) (runner (table_of upload)).state) ∙ h

    good : (table_refusal upload).number ≡ 0
    good = go (behind upload (length_refusal (table_of upload) image) accepted)
      where
        go : Behind upload (length_refusal (table_of upload) image) accepted → (table_refusal upload).number ≡ 0
        go (inl (z, e)) = z
        go (inr (z, e)) = absurd (z (sym (ap (λ (r : Refusal). r.number) e) ∙ none))

    end : RunnerEnds (table_of upload)
    end = runner_ended upload good

    same : run_answer upload image ≡ reported (fresh_refusal upload image) (runner (table_of upload)).steps (table_of upload) (reached_by (table_of upload) end.0)
    same = answered_accepted (fresh_refusal upload image) (runner (table_of upload)).steps (table_of upload) (runner (table_of upload)).state none ∙ ap (reported (fresh_refusal upload image) (runner (table_of upload)).steps (table_of upload)) end.3

    reports : (run_answer upload image).outcome ≡ outcome_of (table_of upload) (reached_by (table_of upload) end.0)
    reports = ap (λ a. a.outcome) same

    waits : (run_answer upload image).waiting ≡ waiting_count (table_of upload) (reached_by (table_of upload) end.0)
    waits = ap (λ a. a.waiting) same

pub calls : Calls
calls = record { runs = run_answers; replays = replay_answers; batches = entry_answers }

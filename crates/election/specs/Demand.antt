-- What demand 3 says of every table and every run, of logs, and of the calls.
use Rattle.std.specs.Prelude.{ℕ, suc, ◌+◌, ◌*◌, ◌≤◌, ◌<◌, Bool, true, false, ◌≡◌, ◌↔◌, List, [], ◌∷◌, length}
use Rattle.paper.specs.Upload.{nodes_of, links_of, actions_of}
use Rattle.paper.specs.Table.{Table, table_of}
use Rattle.paper.specs.State.{State, fresh}
use Rattle.paper.specs.Steps.{Step, after, taken, Run, Still, resolved}
use Rattle.paper.specs.Report.{roots, waiting_count, outcome_of}
use Rattle.paper.specs.Actions.{names, listed}
use Rattle.paper.specs.Runner.{longest, run_from, runner}
use Rattle.paper.specs.Stuck.{Stuck, size, border}
use Rattle.paper.specs.Refusals.{accepted, table_refusal}
use Rattle.paper.specs.Calls.{reported, action_of, replayed, replay_answer, run_answer}
use Rattle.paper.specs.Batch.{entry_answer}
use Rattle.paper.specs.Meanings.{SoundMarks}

-- the state that the steps of a run lead to
abbrev pub reached_by : Table → List Step → State
reached_by t xs = after t (fresh t) xs

-- a run that can go no further
abbrev pub Ended : Table → List Step → Type 0
Ended t xs = Run t xs × Still t (reached_by t xs)

-- A run on a table without a loop:
pub record RunWithoutLoop (t : Table) (xs : List Step) : Type 0 where
  -- there is never more than one root
  pub few_roots : roots t (reached_by t xs) ≤ 1
  -- no run resolves two contentions
  pub few_resolved : resolved xs ≤ 1

-- A run that can go no further on a table without a loop:
pub record EndWithoutLoop (t : Table) (xs : List Step) : Type 0 where
  -- there is exactly one root
  pub one_root : roots t (reached_by t xs) ≡ 1
  -- and no node waits
  pub none_waits : (x : ℕ) → x < t.nodes → (reached_by t xs).waiting x ≡ false
  -- it took 3n - 1 steps if it resolved no contention
  pub steps : resolved xs ≡ 0 → length xs + 1 ≡ 3 * t.nodes
  -- and 3n if it resolved one
  pub steps_resolved : resolved xs ≡ 1 → length xs ≡ 3 * t.nodes

-- On a table without a loop, m = n - 1:
pub record WithoutLoop (t : Table) : Type 0 where
  pub runs : (xs : List Step) → Run t xs → RunWithoutLoop t xs
  pub ends : (xs : List Step) → Ended t xs → EndWithoutLoop t xs

-- A run on a table with a loop:
pub record RunWithLoop (t : Table) (xs : List Step) : Type 0 where
  -- there is never a root
  pub no_root : roots t (reached_by t xs) ≡ 0
  -- no contention is ever resolved
  pub none_resolved : resolved xs ≡ 0

-- A run that can go no further on a table with a loop, with K its stuck set:
pub record EndWithLoop (t : Table) (K : ℕ → Bool) (xs : List Step) : Type 0 where
  -- it took 3(n - k) - t steps
  pub steps : length xs + border t K + 3 * size t K ≡ 3 * t.nodes
  -- exactly the nodes of K still wait
  pub still_wait : (x : ℕ) → x < t.nodes → (reached_by t xs).waiting x ≡ K x
  -- and the waiting count is its size
  pub size_waits : waiting_count t (reached_by t xs) ≡ size t K

-- On a table with a loop, m at least n, with K its stuck set:
pub record WithLoop (t : Table) (K : ℕ → Bool) : Type 0 where
  pub runs : (xs : List Step) → Run t xs → RunWithLoop t xs
  pub ends : (xs : List Step) → Ended t xs → EndWithLoop t K xs

-- Of every table:
pub record StuckSet (t : Table) : Type 0 where
  -- m is at least n - 1
  pub enough_links : t.nodes ≤ t.links + 1
  -- there is a stuck set
  pub exists : (K : ℕ → Bool) × Stuck t K
  -- it is empty exactly when m = n - 1
  pub empty : (K : ℕ → Bool) → Stuck t K → (size t K ≡ 0) ↔ (t.links + 1 ≡ t.nodes)

-- there is only one stuck set
abbrev pub OneStuckSet : Table → Type 0
OneStuckSet t = (K L : ℕ → Bool) → Stuck t K → Stuck t L → (x : ℕ) → x < t.nodes → K x ≡ L x

-- at most 3n steps can be taken from fresh
abbrev pub FewSteps : Table → Type 0
FewSteps t = (xs : List Step) → Run t xs → length xs ≤ 3 * t.nodes

-- from every state with sound marks every run ends
abbrev pub RunsEnd : Table → Type 0
RunsEnd t =
    (s : State) → SoundMarks t s → (xs : List Step) → taken t s xs ≡ true → length xs ≤ 5 * t.nodes + 4 * t.links

-- outcome 4 never follows from fresh
abbrev pub NeverOdd : Table → Type 0
NeverOdd t = (xs : List Step) → Run t xs → outcome_of t (reached_by t xs) ≡ 4 → ⊥

-- All of demand 3:
pub record Demand (t : Table) : Type 0 where
  pub without_loop : t.links + 1 ≡ t.nodes → WithoutLoop t
  pub with_loop : t.nodes ≤ t.links → (K : ℕ → Bool) → Stuck t K → WithLoop t K
  pub stuck_set : StuckSet t
  pub one_stuck_set : OneStuckSet t
  pub few_steps : FewSteps t
  pub runs_end : RunsEnd t
  pub never_odd : NeverOdd t

-- the actions of an upload from action i on name these steps, in turn
abbrev pub NamesFrom : List ℕ → ℕ → List Step → Type 0
NamesFrom upload i [] = Unit {0}
NamesFrom upload i (x ∷ xs) = (action_of upload i ≡ names x) × NamesFrom upload (suc i) xs

-- The steps that a replay takes, whether it ends or an action stops it:
pub record ReplayIsRun (upload : List ℕ) (xs : List Step) : Type 0 where
  -- the actions of the upload name them, in turn
  pub named : NamesFrom upload 0 xs
  -- they are a run of its table
  pub run : Run (table_of upload) xs
  -- as many steps
  pub steps : (replayed upload).steps ≡ length xs
  -- and the same state at the end
  pub state : (replayed upload).state ≡ reached_by (table_of upload) xs

-- A log whose replay is accepted is a run with the same steps and end state:
pub record LogIsRun (upload : List ℕ) (xs : List Step) : Type 0 where
  pub replays : ReplayIsRun upload xs
  -- all actions are taken
  pub every : length xs ≡ actions_of upload
  -- and the answer reports the state that the run reaches
  pub answer : replay_answer upload ≡ reported accepted (length xs) (table_of upload) (reached_by (table_of upload) xs)

-- every byte is below 256
abbrev pub Bytes : List ℕ → Type 0
Bytes [] = Unit {0}
Bytes (byte ∷ rest) = (byte < 256) × Bytes rest

-- The upload v is the accepted log of the run xs of the table of u:
pub record IsLogOf (u : List ℕ) (xs : List Step) (v : List ℕ) : Type 0 where
  -- bytes, if u is
  pub bytes : Bytes u → Bytes v
  -- the same n, m and links
  pub nodes : nodes_of v ≡ nodes_of u
  pub links : links_of v ≡ links_of u
  pub ends : (i : ℕ) (b : Bool) → i < links_of u → (table_of v).end i b ≡ (table_of u).end i b
  -- its actions name the steps of the run, in turn
  pub actions : actions_of v ≡ length xs
  pub named : NamesFrom v 0 xs
  -- its replay ends in the state that the run reaches
  pub state : (replayed v).state ≡ reached_by (table_of u) xs
  -- is accepted, takes as many steps, and reports that state
  pub answer : replay_answer v ≡ reported accepted (length xs) (table_of u) (reached_by (table_of u) xs)

-- Runs and logs are the same thing:
pub record RunsAndLogs : Type 0 where
  -- every replay takes the steps of a run
  pub replays_are_runs : (upload : List ℕ) → (xs : List Step) × ReplayIsRun upload xs
  -- every log whose replay is accepted is a run
  pub logs_are_runs : (upload : List ℕ) → (replay_answer upload).refusal ≡ 0 → (xs : List Step) × LogIsRun upload xs
  -- every run of an accepted table is the accepted log of some upload
  pub runs_are_logs : (u : List ℕ) → (table_refusal u).number ≡ 0 → (xs : List Step) → Run (table_of u) xs → (v : List ℕ) × IsLogOf u xs v

-- the runner stops because no step is possible, and not because its bound is spent
pub record RunnerStops (t : Table) (s : State) : Type 0 where
  pub still : Still t (run_from t (longest t) s 0).state
  pub lists_none : listed t (run_from t (longest t) s 0).state ≡ []

-- so it does from every state with sound marks
abbrev pub RunnerAlwaysStops : Table → Type 0
RunnerAlwaysStops t = (s : State) → SoundMarks t s → RunnerStops t s

-- the steps that the runner takes are a run that can go no further
abbrev pub RunnerEnds : Table → Type 0
RunnerEnds t = (xs : List Step) × Ended t xs × ((runner t).steps ≡ length xs) × ((runner t).state ≡ reached_by t xs)

-- Of every run call that is accepted:
pub record RunAnswers (upload image : List ℕ) : Type 0 where
  -- the runner takes the steps of a run that can go no further
  pub ended : RunnerEnds (table_of upload)
  -- no step is possible where it stops
  pub lists_none : listed (table_of upload) (runner (table_of upload)).state ≡ []
  -- without a loop its answer is outcome 2, root, and no node waits
  pub without_loop : links_of upload + 1 ≡ nodes_of upload → ((run_answer upload image).outcome ≡ 2) × ((run_answer upload image).waiting ≡ 0)
  -- with one it is outcome 3, loop, and the waiting count is k
  pub with_loop : nodes_of upload ≤ links_of upload → (K : ℕ → Bool) → Stuck (table_of upload) K → ((run_answer upload image).outcome ≡ 3) × ((run_answer upload image).waiting ≡ size (table_of upload) K)

-- Of every replay, accepted or refused:
pub record ReplayAnswers (upload : List ℕ) : Type 0 where
  -- outcome 4 is never reported
  pub never_odd : (replay_answer upload).outcome ≡ 4 → ⊥
  -- it takes at most 3n steps
  pub few_steps : (replay_answer upload).steps ≤ 3 * nodes_of upload
  -- hence at most 189
  pub bounded_steps : (replay_answer upload).steps ≤ 189
  -- where the table is accepted there is never more than one root
  pub few_roots : (table_refusal upload).number ≡ 0 → roots (table_of upload) (replayed upload).state ≤ 1

-- Of every entry of a batch:
pub record EntryAnswers (batch : List ℕ) (i : ℕ) : Type 0 where
  -- outcome 4 is never reported
  pub never_odd : (entry_answer batch i).outcome ≡ 4 → ⊥
  -- it takes at most 189 steps
  pub bounded_steps : (entry_answer batch i).steps ≤ 189

-- What demand 3 says of the calls:
pub record Calls : Type 0 where
  pub runs : (upload image : List ℕ) → (run_answer upload image).refusal ≡ 0 → RunAnswers upload image
  pub replays : (upload : List ℕ) → ReplayAnswers upload
  pub batches : (batch : List ℕ) (i : ℕ) → EntryAnswers batch i

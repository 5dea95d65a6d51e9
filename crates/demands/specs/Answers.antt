-- Demand 1 over the definitions: what every call answers and leaves, whatever its input.
use Rattle.std.specs.Prelude.{ℕ, ◌≤◌, ◌<◌, ◌≡◌, ◌⊎◌, List, [], length, take, drop}
use Rattle.paper.specs.declared.Answer.{Answer}
use Rattle.paper.specs.Upload.{actions_of}
use Rattle.paper.specs.Table.{table_of}
use Rattle.paper.specs.State.{State, fresh}
use Rattle.paper.specs.Image.{image_of, state_of}
use Rattle.paper.specs.Refusals.{accepted}
use Rattle.paper.specs.Runner.{runner}
use Rattle.paper.specs.Calls.{reported, fresh_answer, fresh_image, report_answer, list_of_image, list_answer, list_buffer, step_state, step_answer, step_image, run_answer, run_image, replay_answer}
use Rattle.paper.specs.Batch.{entry_answer}
use Rattle.paper.specs.Lines.{text_of, lines_answer, lines_buffer}
use Rattle.batch.specs.Independent.{Independent}
use Rattle.demands.specs.ExactlyWhen.{TablePasses, BadImage, ActionRefused, ActionTaken, ReplayRefused, AllTaken}

-- the calls, with all that each is lent and given
pub data Call : Type 0 where
  fresh_call : (upload image : List ℕ) → Call
  run_call : (upload image : List ℕ) → Call
  report_call : (upload image : List ℕ) → Call
  list_call : (upload image buffer : List ℕ) → Call
  step_call : (upload image : List ℕ) (kind x y : ℕ) → Call
  replay_call : (upload : List ℕ) → Call
  entry_call : (batch : List ℕ) (i : ℕ) → Call
  lines_call : (batch buffer : List ℕ) → Call

abbrev pub answer_of : Call → Answer
answer_of (fresh_call upload image) = fresh_answer upload image
answer_of (run_call upload image) = run_answer upload image
answer_of (report_call upload image) = report_answer upload image
answer_of (list_call upload image buffer) = list_answer upload image buffer
answer_of (step_call upload image kind x y) = step_answer upload image kind x y
answer_of (replay_call upload) = replay_answer upload
answer_of (entry_call batch i) = entry_answer batch i
answer_of (lines_call batch buffer) = lines_answer batch buffer

-- the bytes that are lent to be written, before the call: none where a call is lent nothing to write
abbrev pub before : Call → List ℕ
before (fresh_call upload image) = image
before (run_call upload image) = image
before (report_call upload image) = []
before (list_call upload image buffer) = buffer
before (step_call upload image kind x y) = image
before (replay_call upload) = []
before (entry_call batch i) = []
before (lines_call batch buffer) = buffer

-- and after it
abbrev pub after : Call → List ℕ
after (fresh_call upload image) = fresh_image upload image
after (run_call upload image) = run_image upload image
after (report_call upload image) = []
after (list_call upload image buffer) = list_buffer upload image buffer
after (step_call upload image kind x y) = step_image upload image kind x y
after (replay_call upload) = []
after (entry_call batch i) = []
after (lines_call batch buffer) = lines_buffer batch buffer

-- what an accepted call writes
abbrev pub output : Call → List ℕ
output (fresh_call upload image) = image_of (table_of upload) (fresh (table_of upload))
output (run_call upload image) = image_of (table_of upload) (runner (table_of upload)).state
output (report_call upload image) = []
output (list_call upload image buffer) = list_of_image upload image
output (step_call upload image kind x y) = image_of (table_of upload) (step_state upload image kind x y)
output (replay_call upload) = []
output (entry_call batch i) = []
output (lines_call batch buffer) = text_of batch

-- the most that steps can be: of the lines, whose steps are bytes, 64 lines of 42
abbrev pub most_steps : Call → ℕ
most_steps (fresh_call upload image) = 1024
most_steps (run_call upload image) = 1024
most_steps (report_call upload image) = 1024
most_steps (list_call upload image buffer) = 1024
most_steps (step_call upload image kind x y) = 1024
most_steps (replay_call upload) = 1024
most_steps (entry_call batch i) = 1024
most_steps (lines_call batch buffer) = 2688

-- what is left of the lent bytes
pub record Leaves (c : Call) : Type 0 where
  -- a refused call leaves all lent memory with the bytes it had
  pub kept : ((answer_of c).refusal ≡ 0 → ⊥) → after c ≡ before c
  -- an accepted one has written its output from the first byte on, which had room
  pub written : (answer_of c).refusal ≡ 0 → take (length (output c)) (after c) ≡ output c
  pub fits : (answer_of c).refusal ≡ 0 → length (output c) ≤ length (before c)
  -- any output leaves bytes beyond its end unchanged
  pub beyond : drop (length (output c)) (after c) ≡ drop (length (output c)) (before c)
  -- a lent buffer or image keeps its length
  pub same_length : length (after c) ≡ length (before c)

-- every answer is one of the numbers 0 to 13, outcomes 0 to 4, and within these bounds
pub record Ranges (answer : Answer) (steps : ℕ) : Type 0 where
  pub refusal_range : answer.refusal ≤ 13
  pub place_range : answer.place ≤ 1023
  pub steps_range : answer.steps ≤ steps
  pub outcome_range : answer.outcome ≤ 4
  pub root_range : (answer.root < 63) ⊎ (answer.root ≡ 255)
  pub waiting_range : answer.waiting ≤ 63

-- a number of refusal that isn't of an action
abbrev pub NotOfAction : ℕ → Type 0
NotOfAction number = (1 ≤ number) × ((number ≤ 8) ⊎ (12 ≤ number))

-- steps 0, outcome 0, root 255, waiting 0
pub record Blank (answer : Answer) : Type 0 where
  pub no_steps : answer.steps ≡ 0
  pub no_outcome : answer.outcome ≡ 0
  pub no_root : answer.root ≡ 255
  pub no_waiting : answer.waiting ≡ 0

-- a replay answers as many steps as actions were taken, and the report of the state that they have led to
pub record Counts (upload : List ℕ) : Type 0 where
  pub stopped : TablePasses upload → {number i : ℕ} (h : ReplayRefused upload number i) → replay_answer upload ≡ reported (record { number = number; place = i }) i (table_of upload) h.before
  pub ended : TablePasses upload → (h : AllTaken upload) → replay_answer upload ≡ reported accepted (actions_of upload) (table_of upload) h.end

-- a single step answers 1 and the report of the state behind it, or is refused with 0 and the report of the state as it is
pub record StepCounts (upload image : List ℕ) (kind x y : ℕ) : Type 0 where
  pub refused : TablePasses upload → (BadImage (table_of upload) image → ⊥) → {number : ℕ} → ActionRefused (table_of upload) (state_of (table_of upload) image) kind x y number → step_answer upload image kind x y ≡ reported (record { number = number; place = 0 }) 0 (table_of upload) (state_of (table_of upload) image)
  pub taken : TablePasses upload → (BadImage (table_of upload) image → ⊥) → {next : State} → ActionTaken (table_of upload) (state_of (table_of upload) image) kind x y next → step_answer upload image kind x y ≡ reported accepted 1 (table_of upload) next

-- demand 1, but for what Calls.antt says of the functions: every call has an answer
pub record Answers : Type 0 where
  -- the answer for one upload of a batch depends only on its own bytes, once the header is accepted and the span lies inside
  pub independent : Independent
  pub leaves : (c : Call) → Leaves c
  pub ranges : (c : Call) → Ranges (answer_of c) (most_steps c)
  pub blank : (c : Call) → NotOfAction (answer_of c).refusal → Blank (answer_of c)
  pub counts : (upload : List ℕ) → Counts upload
  pub step_counts : (upload image : List ℕ) (kind x y : ℕ) → StepCounts upload image kind x y

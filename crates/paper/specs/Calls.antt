-- The calls: what each answers, and the bytes that it leaves in each lent buffer.
use Rattle.std.specs.Prelude.{ℕ, zero, suc, ◌+◌, ◌/◌, Bool, cond, ◌&&◌, ◌||◌, List, ◌++◌, length, drop, leb, eqb}
use Rattle.paper.specs.declared.Answer.{Answer}
use Rattle.paper.specs.Upload.{byte_at, actions_of, action_at}
use Rattle.paper.specs.Table.{Table, table_of}
use Rattle.paper.specs.State.{State, fresh}
use Rattle.paper.specs.Image.{image_of, state_of}
use Rattle.paper.specs.Report.{outcome_of, root_of, waiting_count}
use Rattle.paper.specs.Actions.{Reading, reading, refused_by, state_after, listed}
use Rattle.paper.specs.Runner.{runner}
use Rattle.paper.specs.Refusals.{Refusal, accepted, Tried, refusal, image_refusal, length_refusal, room_refusal}

-- a refusal that isn't of an action: steps 0, outcome 0, root 255, waiting 0
abbrev pub refused_with : Refusal → Answer
refused_with r =
    record { refusal = r.number; place = r.place; steps = 0; outcome = 0; root = 255; waiting = 0 }

-- steps taken and the report of a state
abbrev pub reported : Refusal → ℕ → Table → State → Answer
reported r steps t s =
    record {
      refusal = r.number;
      place = r.place;
      steps = steps;
      outcome = outcome_of t s;
      root = root_of t s;
      waiting = waiting_count t s;
    }

-- accepted, or refused for an action: there is a state to report
abbrev pub has_state : Refusal → Bool
has_state r = eqb r.number 0 || (leb 9 r.number && leb r.number 11)

abbrev pub answered : Refusal → ℕ → Table → State → Answer
answered r steps t s = cond (has_state r) (reported r steps t s) (refused_with r)

-- a lent buffer afterwards: new bytes if the call was accepted, as it was if refused
abbrev pub left : Refusal → List ℕ → List ℕ → List ℕ
left r new old = cond (eqb r.number 0) new old

-- what a call is refused for that is lent an image, an action, a buffer
abbrev pub trying : Refusal → Refusal → Refusal → Tried
trying image action room = record { header = accepted; span = accepted; image = image; action = action; room = room }

-- fresh: makes the fresh image
abbrev pub fresh_refusal : List ℕ → List ℕ → Refusal
fresh_refusal upload image = refusal upload (trying (length_refusal (table_of upload) image) accepted accepted)

unfoldable pub fresh_answer : List ℕ → List ℕ → Answer
fresh_answer upload image = answered (fresh_refusal upload image) 0 (table_of upload) (fresh (table_of upload))

unfoldable pub fresh_image : List ℕ → List ℕ → List ℕ
fresh_image upload image = left (fresh_refusal upload image) (image_of (table_of upload) (fresh (table_of upload))) image

-- report: of a lent image
abbrev pub report_refusal : List ℕ → List ℕ → Refusal
report_refusal upload image = refusal upload (trying (image_refusal (table_of upload) image) accepted accepted)

unfoldable pub report_answer : List ℕ → List ℕ → Answer
report_answer upload image =
    answered (report_refusal upload image) 0 (table_of upload) (state_of (table_of upload) image)

-- list: the possible steps of a lent image, into a lent buffer
abbrev pub list_of_image : List ℕ → List ℕ → List ℕ
list_of_image upload image = listed (table_of upload) (state_of (table_of upload) image)

abbrev pub list_refusal : List ℕ → List ℕ → List ℕ → Refusal
list_refusal upload image buffer =
    refusal upload
    (trying (image_refusal (table_of upload) image) accepted (room_refusal (length (list_of_image upload image)) buffer))

unfoldable pub list_answer : List ℕ → List ℕ → List ℕ → Answer
list_answer upload image buffer =
    answered (list_refusal upload image buffer)
    (length (list_of_image upload image) / 3)
    (table_of upload)
    (state_of (table_of upload) image)

-- an output leaves the bytes beyond its end unchanged
abbrev pub over : List ℕ → List ℕ → List ℕ
over output buffer = output ++ drop (length output) buffer

unfoldable pub list_buffer : List ℕ → List ℕ → List ℕ → List ℕ
list_buffer upload image buffer =
    left (list_refusal upload image buffer) (over (list_of_image upload image) buffer) buffer

-- step: one action, as action 0
abbrev pub action_refusal : ℕ → ℕ → Refusal
action_refusal number place = record { number = number; place = cond (eqb number 0) 0 place }

abbrev pub step_refusal : List ℕ → List ℕ → ℕ → ℕ → ℕ → Refusal
step_refusal upload image kind x y =
    let t = table_of upload in
    refusal upload
    (trying (image_refusal t image) (action_refusal (refused_by t (state_of t image) (reading t kind x y)) 0) accepted)

-- the state that a single step leaves: the next if it is taken, else the one as it is
abbrev pub step_state : List ℕ → List ℕ → ℕ → ℕ → ℕ → State
step_state upload image kind x y =
    let t = table_of upload in
    let s = state_of t image in
    cond (eqb (refused_by t s (reading t kind x y)) 0) (state_after t s (reading t kind x y)) s

unfoldable pub step_answer : List ℕ → List ℕ → ℕ → ℕ → ℕ → Answer
step_answer upload image kind x y =
    let r = step_refusal upload image kind x y in
    answered r (cond (eqb r.number 0) 1 0) (table_of upload) (step_state upload image kind x y)

unfoldable pub step_image : List ℕ → List ℕ → ℕ → ℕ → ℕ → List ℕ
step_image upload image kind x y =
    left (step_refusal upload image kind x y) (image_of (table_of upload) (step_state upload image kind x y)) image

-- run: the runner, which leaves the end image
unfoldable pub run_answer : List ℕ → List ℕ → Answer
run_answer upload image =
    let t = table_of upload in
    answered (fresh_refusal upload image) (runner t).steps t (runner t).state

unfoldable pub run_image : List ℕ → List ℕ → List ℕ
run_image upload image =
    left (fresh_refusal upload image) (image_of (table_of upload) (runner (table_of upload)).state) image

-- where a replay has come to: the refusal of its first refused action, the number of actions taken, the state before it
pub record Replayed : Type 0 where
  pub refusal : Refusal
  pub steps : ℕ
  pub state : State

-- action i of an upload, as read
abbrev pub action_of : List ℕ → ℕ → Reading
action_of upload i =
    let at = action_at upload i in
    reading (table_of upload) (byte_at upload at) (byte_at upload (at + 1)) (byte_at upload (at + 2))

-- the k actions from action i on, in turn, each tried for 9, 10, 11
unfoldable pub replay_from : List ℕ → State → ℕ → ℕ → Replayed
replay_from upload s i zero = record { refusal = accepted; steps = i; state = s }
replay_from upload s i (suc k) =
    let t = table_of upload in
    let number = refused_by t s (action_of upload i) in
    let stopped : Replayed = record { refusal = record { number = number; place = i }; steps = i; state = s } in
    let next = replay_from upload (state_after t s (action_of upload i)) (suc i) k in
    cond (eqb number 0) next stopped

unfoldable pub replayed : List ℕ → Replayed
replayed upload = replay_from upload (fresh (table_of upload)) 0 (actions_of upload)

-- replay, behind a header and a span that may be refused
unfoldable pub replay_behind : Refusal → Refusal → List ℕ → Answer
replay_behind header span upload =
    let r = replayed upload in
    answered
    (refusal upload (record { header = header; span = span; image = accepted; action = r.refusal; room = accepted }))
    r.steps
    (table_of upload)
    r.state

-- replay: of an upload
abbrev pub replay_answer : List ℕ → Answer
replay_answer upload = replay_behind accepted accepted upload

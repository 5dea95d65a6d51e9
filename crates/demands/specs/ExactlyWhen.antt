-- The table of refusals of document 01, numbers 0 to 13 for every call, in plain terms: what each number is given for, at which place, behind which checks.
use Rattle.std.specs.Prelude.{ℕ, suc, ◌+◌, ◌≤◌, ◌<◌, Bool, true, ◌≡◌, ◌⊎◌, ◌↔◌, List, length}
use Rattle.paper.specs.declared.Answer.{Answer}
use Rattle.paper.specs.Upload.{byte_at, actions_of, action_at}
use Rattle.paper.specs.Table.{Table, table_of, source, target, OnePiece}
use Rattle.paper.specs.State.{none, State, fresh}
use Rattle.paper.specs.Steps.{Step, children_known, add_child, acknowledge, resolve, become_root, effect}
use Rattle.paper.specs.Image.{image_length, direction_at, state_of}
use Rattle.paper.specs.Meanings.{kind_of, first_of, second_of}
use Rattle.paper.specs.Calls.{fresh_answer, report_answer, list_of_image, list_answer, step_answer, run_answer, replay_answer}
use Rattle.paper.specs.Batch.{count_of, header_end, offset_of, length_of, part_of, entry_answer}
use Rattle.paper.specs.Lines.{text_of, lines_answer}
use Rattle.replay.specs.Promises.{Possible}
use Rattle.table.specs.ExactlyWhen.{OutOfRange, WrongLength, NamesNoNode, JoinsItself, Repeats, Reaches, AllLinksPass}

-- the answer is this number at this place
abbrev pub Given : Answer → ℕ → ℕ → Type 0
Given answer number place = (answer.refusal ≡ number) × (answer.place ≡ place)

-- 1: batch under 4 bytes or over 65,536, c out of range, or entries beyond its end
pub data HeaderWrong (batch : List ℕ) : Type 0 where
  under : length batch < 4 → HeaderWrong batch
  over : 65536 < length batch → HeaderWrong batch
  no_entry : count_of batch ≡ 0 → HeaderWrong batch
  many_entries : 64 < count_of batch → HeaderWrong batch
  entries_beyond : length batch < header_end batch → HeaderWrong batch

-- 2: there is no such entry, or its span starts before 4 + 8c, or offset plus length passes the batch's length
pub data SpanOutside (batch : List ℕ) (i : ℕ) : Type 0 where
  not_there : count_of batch ≤ i → SpanOutside batch i
  early : offset_of batch i < header_end batch → SpanOutside batch i
  late : length batch < offset_of batch i + length_of batch i → SpanOutside batch i

-- 3 to 8, each with its place: the grounds that the table's own theorem proves exact
pub data TableRefused (upload : List ℕ) : ℕ → ℕ → Type 0 where
  wrong_length : WrongLength upload → TableRefused upload 3 0
  out_of_range : 4 ≤ length upload → OutOfRange upload → TableRefused upload 4 0
  names_no_node : {i : ℕ} → Reaches upload i → NamesNoNode (table_of upload) i → TableRefused upload 5 i
  joins_itself : {i : ℕ} → Reaches upload i → (NamesNoNode (table_of upload) i → ⊥) → JoinsItself (table_of upload) i → TableRefused upload 6 i
  repeats : {i : ℕ} → Reaches upload i → (NamesNoNode (table_of upload) i → ⊥) → (JoinsItself (table_of upload) i → ⊥) → Repeats (table_of upload) i → TableRefused upload 7 i
  not_one_piece : AllLinksPass upload → (OnePiece (table_of upload) → ⊥) → TableRefused upload 8 0

-- checks 3 to 8 pass
pub record TablePasses (upload : List ℕ) : Type 0 where
  pub links : AllLinksPass upload
  pub piece : OnePiece (table_of upload)

-- 12 where an image is lent to be written only
abbrev pub WrongImageLength : Table → List ℕ → Type 0
WrongImageLength t image = length image ≡ image_length t → ⊥

-- 12 where an image is lent to be read: not n + 2m bytes, a byte out of range, or a waiting node with a message on a direction out of it
pub data BadImage (t : Table) (image : List ℕ) : Type 0 where
  not_the_length : WrongImageLength t image → BadImage t image
  node_byte_over : (x : ℕ) → x < t.nodes → 8 ≤ byte_at image x → BadImage t image
  direction_byte_over : (i : ℕ) (b : Bool) → i < t.links → 6 ≤ byte_at image (direction_at t i b) → BadImage t image
  sends_waiting : (i : ℕ) (b : Bool) → i < t.links → (state_of t image).waiting (source t i b) ≡ true → ((state_of t image).message i b ≡ none → ⊥) → BadImage t image

-- 9: kind not 1 to 5, a named node n or more, or y not 255 in kinds 1 and 5
pub data Unreadable (t : Table) (kind x y : ℕ) : Type 0 where
  kind_under : kind < 1 → Unreadable t kind x y
  kind_over : 5 < kind → Unreadable t kind x y
  no_first : t.nodes ≤ x → Unreadable t kind x y
  no_second : 2 ≤ kind → kind ≤ 4 → t.nodes ≤ y → Unreadable t kind x y
  second_named : (kind ≡ 1) ⊎ (kind ≡ 5) → (y ≡ 255 → ⊥) → Unreadable t kind x y

-- 10: kinds 2 to 4 with nodes of the table, and no link joins x and y
pub record NoLink (t : Table) (kind x y : ℕ) : Type 0 where
  pub low : 2 ≤ kind
  pub high : kind ≤ 4
  pub first : x < t.nodes
  pub second : y < t.nodes
  pub apart : (i : ℕ) (b : Bool) → i < t.links → source t i b ≡ x → target t i b ≡ y → ⊥

-- the node or link of a step is one of the table's
abbrev pub InTable : Table → Step → Type 0
InTable t (children_known x) = x < t.nodes
InTable t (add_child i b) = i < t.links
InTable t (acknowledge i b) = i < t.links
InTable t (resolve i b) = i < t.links
InTable t (become_root x) = x < t.nodes

-- kind, x, y name a step: it is one of the table's, and these are its three bytes
pub record Names (t : Table) (kind x y : ℕ) (step : Step) : Type 0 where
  pub there : InTable t step
  pub kind_same : kind ≡ kind_of step
  pub first_same : x ≡ first_of t step
  pub second_same : y ≡ second_of t step

-- an action in a state, tried for 9, 10, 11
pub data ActionRefused (t : Table) (s : State) (kind x y : ℕ) : ℕ → Type 0 where
  unreadable : Unreadable t kind x y → ActionRefused t s kind x y 9
  no_link : NoLink t kind x y → ActionRefused t s kind x y 10
  not_possible : (step : Step) → Names t kind x y step → (Possible t s step → ⊥) → ActionRefused t s kind x y 11

-- the action names a step that is possible, and the step leads to the next state
pub record ActionTaken (t : Table) (s : State) (kind x y : ℕ) (next : State) : Type 0 where
  pub step : Step
  pub named : Names t kind x y step
  pub can : Possible t s step
  pub leads : next ≡ effect t s step

-- the three bytes of action i of an upload
abbrev pub kind_at : List ℕ → ℕ → ℕ
kind_at upload i = byte_at upload (action_at upload i)

abbrev pub first_at : List ℕ → ℕ → ℕ
first_at upload i = byte_at upload (action_at upload i + 1)

abbrev pub second_at : List ℕ → ℕ → ℕ
second_at upload i = byte_at upload (action_at upload i + 2)

-- the first i actions of an upload were taken from the fresh state, in turn, and have led to a state
pub data Taken (upload : List ℕ) : ℕ → State → Type 0 where
  at_first : Taken upload 0 (fresh (table_of upload))
  and_then : {i : ℕ} {s next : State} → Taken upload i s → ActionTaken (table_of upload) s (kind_at upload i) (first_at upload i) (second_at upload i) next → Taken upload (suc i) next

-- action i of a replay is refused: those before it were taken
pub record ReplayRefused (upload : List ℕ) (number i : ℕ) : Type 0 where
  pub there : i < actions_of upload
  pub before : State
  pub earlier : Taken upload i before
  pub refused : ActionRefused (table_of upload) before (kind_at upload i) (first_at upload i) (second_at upload i) number

-- every action of a replay was taken
pub record AllTaken (upload : List ℕ) : Type 0 where
  pub end : State
  pub all : Taken upload (actions_of upload) end

-- a single step, as action 0, is refused
pub record StepRefused (t : Table) (s : State) (kind x y : ℕ) (number place : ℕ) : Type 0 where
  pub only : place ≡ 0
  pub refused : ActionRefused t s kind x y number

-- it is taken
pub record StepTaken (t : Table) (s : State) (kind x y : ℕ) : Type 0 where
  pub next : State
  pub taken : ActionTaken t s kind x y next

-- 13: the output needs more bytes than the lent buffer has
abbrev pub NoRoom : List ℕ → List ℕ → Type 0
NoRoom output buffer = length buffer < length output

-- what a call tries, as the grounds on which it is refused: none for what it doesn't try
pub record Tries : Type 1 where
  pub header : Type 0
  pub span : Type 0
  pub upload : List ℕ
  pub image : Type 0
  -- a number at a place
  pub action : ℕ → ℕ → Type 0
  -- no action is refused
  pub taken : Type 0
  pub room : Type 0

-- neither the header nor the span is refused
pub record Inside (c : Tries) : Type 0 where
  pub header : c.header → ⊥
  pub span : c.span → ⊥

-- and neither the table nor the image is
pub record Ready (c : Tries) : Type 0 where
  pub inside : Inside c
  pub table : TablePasses c.upload
  pub image : c.image → ⊥

-- the order: each number at its place, with its ground, behind the checks before it
pub data Ground (c : Tries) : ℕ → ℕ → Type 0 where
  of_header : c.header → Ground c 1 0
  of_span : (c.header → ⊥) → c.span → Ground c 2 0
  of_table : {number place : ℕ} → Inside c → TableRefused c.upload number place → Ground c number place
  of_image : Inside c → TablePasses c.upload → c.image → Ground c 12 0
  of_action : {number place : ℕ} → Ready c → c.action number place → Ground c number place
  of_room : Ready c → c.taken → c.room → Ground c 13 0
  accepted : Ready c → c.taken → (c.room → ⊥) → Ground c 0 0

-- a call of a table that reads no batch
abbrev pub tries : List ℕ → Type 0 → (ℕ → ℕ → Type 0) → Type 0 → Type 0 → Tries
tries upload image action taken room =
    record { header = ⊥; span = ⊥; upload = upload; image = image; action = action; taken = taken; room = room }

-- where no action is tried
abbrev pub no_action : ℕ → ℕ → Type 0
no_action number place = ⊥

-- fresh and run are lent an image to write, and don't read the old bytes
abbrev pub fresh_tries : List ℕ → List ℕ → Tries
fresh_tries upload image = tries upload (WrongImageLength (table_of upload) image) no_action (Unit {0}) ⊥

-- report, list and step read the lent image
abbrev pub report_tries : List ℕ → List ℕ → Tries
report_tries upload image = tries upload (BadImage (table_of upload) image) no_action (Unit {0}) ⊥

abbrev pub list_tries : List ℕ → List ℕ → List ℕ → Tries
list_tries upload image buffer =
    tries upload (BadImage (table_of upload) image) no_action (Unit {0}) (NoRoom (list_of_image upload image) buffer)

abbrev pub step_tries : List ℕ → List ℕ → ℕ → ℕ → ℕ → Tries
step_tries upload image kind x y =
    let t = table_of upload in
    let s = state_of t image in
    tries upload (BadImage t image) (StepRefused t s kind x y) (StepTaken t s kind x y) ⊥

-- a replay is lent the upload alone
abbrev pub replay_tries : List ℕ → Tries
replay_tries upload = tries upload ⊥ (ReplayRefused upload) (AllTaken upload) ⊥

-- an entry of a batch: the replay of its part behind the header and the span
abbrev pub entry_tries : List ℕ → ℕ → Tries
entry_tries batch i =
    let part = part_of batch i in
    record {
      header = HeaderWrong batch;
      span = SpanOutside batch i;
      upload = part;
      image = ⊥;
      action = ReplayRefused part;
      taken = AllTaken part;
      room = ⊥;
    }

-- the lines of a batch are refused for want of room alone
pub data LinesGround (batch buffer : List ℕ) : ℕ → ℕ → Type 0 where
  written : (NoRoom (text_of batch) buffer → ⊥) → LinesGround batch buffer 0 0
  no_room : NoRoom (text_of batch) buffer → LinesGround batch buffer 13 0

-- an answer has this number at this place exactly when there is a ground for it
abbrev pub Exactly : Answer → (ℕ → ℕ → Type 0) → Type 0
Exactly answer G = (number place : ℕ) → Given answer number place ↔ G number place

-- the table of refusals, for every call
pub record ExactlyWhen : Type 0 where
  pub fresh : (upload image : List ℕ) → Exactly (fresh_answer upload image) (Ground (fresh_tries upload image))
  pub run : (upload image : List ℕ) → Exactly (run_answer upload image) (Ground (fresh_tries upload image))
  pub report : (upload image : List ℕ) → Exactly (report_answer upload image) (Ground (report_tries upload image))
  pub list : (upload image buffer : List ℕ) → Exactly (list_answer upload image buffer) (Ground (list_tries upload image buffer))
  pub step : (upload image : List ℕ) (kind x y : ℕ) → Exactly (step_answer upload image kind x y) (Ground (step_tries upload image kind x y))
  pub replay : (upload : List ℕ) → Exactly (replay_answer upload) (Ground (replay_tries upload))
  pub entry : (batch : List ℕ) (i : ℕ) → Exactly (entry_answer batch i) (Ground (entry_tries batch i))
  pub lines : (batch buffer : List ℕ) → Exactly (lines_answer batch buffer) (LinesGround batch buffer)

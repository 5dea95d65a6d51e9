-- What the calls promise in plain words: the table of steps over marks, a replay as its single steps, and that no other call reads an action.
use Rattle.std.specs.Prelude.{ℕ, zero, suc, ◌+◌, ◌≤◌, ◌<◌, Bool, true, false, not, ◌≡◌, ◌⊎◌, ◌↔◌, List, length}
use Rattle.paper.specs.Upload.{byte_at, links_of, actions_of, link_at, action_at}
use Rattle.paper.specs.Table.{Table, table_of, source, target}
use Rattle.paper.specs.State.{State, none, request, acknowledgement}
use Rattle.paper.specs.Steps.{Step, children_known, add_child, acknowledge, resolve, become_root}
use Rattle.paper.specs.Image.{state_of, image_of, fits, sound}
use Rattle.paper.specs.Meanings.{kind_of, first_of, second_of}
use Rattle.paper.specs.Calls.{fresh_answer, fresh_image, report_answer, list_answer, list_buffer, step_answer, step_image, run_answer, run_image, replayed, replay_answer}

-- of any two directions into x, one has child or they are the same: at most one lacks it
abbrev pub AtMostOneLacks : Table → State → ℕ → Type 0
AtMostOneLacks t s x =
    (i j : ℕ) (b c : Bool) →
    i < t.links →
    j < t.links →
    target t i b ≡ x →
    target t j c ≡ x →
    (s.child i b ≡ true) ⊎ (s.child j c ≡ true) ⊎ ((i ≡ j) × (b ≡ c))

-- every direction into x has child
abbrev pub AllHave : Table → State → ℕ → Type 0
AllHave t s x = (i : ℕ) (b : Bool) → i < t.links → target t i b ≡ x → s.child i b ≡ true

-- possible exactly when
abbrev pub Possible : Table → State → Step → Type 0
Possible t s (children_known x) = (x < t.nodes) × (s.waiting x ≡ true) × AtMostOneLacks t s x
Possible t s (add_child i b) =
    (i < t.links) × (s.waiting (target t i b) ≡ true) × (s.message i b ≡ none → ⊥)
Possible t s (acknowledge i b) =
    (i < t.links) × (s.waiting (target t i b) ≡ false) × (s.message i b ≡ none → ⊥)
Possible t s (resolve i b) =
    (i < t.links) × (s.contending (source t i b) ≡ true) × (s.contending (target t i b) ≡ true)
Possible t s (become_root x) = (x < t.nodes) × (s.root x ≡ false) × AllHave t s x

-- the marks of nodes, and of directions, that stay
abbrev pub SameNodes : (ℕ → Bool) → (ℕ → Bool) → Type 0
SameNodes f g = (u : ℕ) → g u ≡ f u

abbrev pub SameBut : ℕ → (ℕ → Bool) → (ℕ → Bool) → Type 0
SameBut x f g = (u : ℕ) → (u ≡ x → ⊥) → g u ≡ f u

abbrev pub SameDirections : {A : Type 0} → (ℕ → Bool → A) → (ℕ → Bool → A) → Type 0
SameDirections f g = (j : ℕ) (c : Bool) → g j c ≡ f j c

abbrev pub SameButDirection : {A : Type 0} → ℕ → Bool → (ℕ → Bool → A) → (ℕ → Bool → A) → Type 0
SameButDirection i b f g = (j : ℕ) (c : Bool) → ((j ≡ i) × (c ≡ b) → ⊥) → g j c ≡ f j c

-- kind 1: x stops waiting; on each direction out of x a message: acknowledgement if the reverse direction has child, else request
pub record ChildrenKnown (t : Table) (x : ℕ) (s after : State) : Type 0 where
  pub stops : after.waiting x ≡ false
  pub acknowledges : (i : ℕ) (b : Bool) → i < t.links → source t i b ≡ x → s.child i (not b) ≡ true → after.message i b ≡ acknowledgement
  pub requests : (i : ℕ) (b : Bool) → i < t.links → source t i b ≡ x → s.child i (not b) ≡ false → after.message i b ≡ request
  pub waiting : SameBut x s.waiting after.waiting
  pub contending : SameNodes s.contending after.contending
  pub root : SameNodes s.root after.root
  pub child : SameDirections s.child after.child
  pub message : (i : ℕ) (b : Bool) → (i < t.links → source t i b ≡ x → ⊥) → after.message i b ≡ s.message i b

-- kind 2: that direction gets child; message removed
pub record AddChild (i : ℕ) (b : Bool) (s after : State) : Type 0 where
  pub gets : after.child i b ≡ true
  pub removed : after.message i b ≡ none
  pub waiting : SameNodes s.waiting after.waiting
  pub contending : SameNodes s.contending after.contending
  pub root : SameNodes s.root after.root
  pub child : SameButDirection i b s.child after.child
  pub message : SameButDirection i b s.message after.message

-- kind 3: y contending if it was a request, else not contending; message removed
pub record Acknowledge (t : Table) (i : ℕ) (b : Bool) (s after : State) : Type 0 where
  pub asked : s.message i b ≡ request → after.contending (target t i b) ≡ true
  pub answered : (s.message i b ≡ request → ⊥) → after.contending (target t i b) ≡ false
  pub removed : after.message i b ≡ none
  pub waiting : SameNodes s.waiting after.waiting
  pub contending : SameBut (target t i b) s.contending after.contending
  pub root : SameNodes s.root after.root
  pub child : SameDirections s.child after.child
  pub message : SameButDirection i b s.message after.message

-- kind 4: direction x to y gets child; neither contends
pub record Resolve (t : Table) (i : ℕ) (b : Bool) (s after : State) : Type 0 where
  pub gets : after.child i b ≡ true
  pub first : after.contending (source t i b) ≡ false
  pub second : after.contending (target t i b) ≡ false
  pub waiting : SameNodes s.waiting after.waiting
  pub contending : (u : ℕ) → (u ≡ source t i b → ⊥) → (u ≡ target t i b → ⊥) → after.contending u ≡ s.contending u
  pub root : SameNodes s.root after.root
  pub child : SameButDirection i b s.child after.child
  pub message : SameDirections s.message after.message

-- kind 5: x is root
pub record BecomeRoot (x : ℕ) (s after : State) : Type 0 where
  pub is_root : after.root x ≡ true
  pub waiting : SameNodes s.waiting after.waiting
  pub contending : SameNodes s.contending after.contending
  pub root : SameBut x s.root after.root
  pub child : SameDirections s.child after.child
  pub message : SameDirections s.message after.message

-- effect
abbrev pub Effect : Table → Step → State → State → Type 0
Effect t (children_known x) s after = ChildrenKnown t x s after
Effect t (add_child i b) s after = AddChild i b s after
Effect t (acknowledge i b) s after = Acknowledge t i b s after
Effect t (resolve i b) s after = Resolve t i b s after
Effect t (become_root x) s after = BecomeRoot x s after

-- the three bytes are a step's, and the step is possible
pub record Allowed (t : Table) (s : State) (kind x y : ℕ) (z : Step) : Type 0 where
  pub kind_is : kind ≡ kind_of z
  pub first_is : x ≡ first_of t z
  pub second_is : y ≡ second_of t z
  pub may : Possible t s z

-- a step on a lent image, whatever its three bytes
pub record FollowsTable (upload image : List ℕ) (kind x y : ℕ) : Type 0 where
  -- it is taken exactly when its bytes are a possible step's
  pub exactly : ((step_answer upload image kind x y).refusal ≡ 0) ↔ ((z : Step) × Allowed (table_of upload) (state_of (table_of upload) image) kind x y z)
  -- then it has that step's effect and no other
  pub effect : (z : Step) → Allowed (table_of upload) (state_of (table_of upload) image) kind x y z → Effect (table_of upload) z (state_of (table_of upload) image) (state_of (table_of upload) (step_image upload image kind x y))
  -- else every byte stays
  pub stays : ((step_answer upload image kind x y).refusal ≡ 0 → ⊥) → step_image upload image kind x y ≡ image
  -- one step is counted where it is taken, else none
  pub counted : (step_answer upload image kind x y).refusal ≡ 0 → (step_answer upload image kind x y).steps ≡ 1
  pub uncounted : ((step_answer upload image kind x y).refusal ≡ 0 → ⊥) → (step_answer upload image kind x y).steps ≡ 0
  -- the image is again of its length, and sound
  pub keeps_length : fits (table_of upload) (step_image upload image kind x y) ≡ true
  pub keeps_sound : sound (table_of upload) (step_image upload image kind x y) ≡ true

-- action i as a single step on an image: what it answers, and what it leaves
abbrev pub single_refusal : List ℕ → List ℕ → ℕ → ℕ
single_refusal upload image i =
    let at = action_at upload i in
    (step_answer upload image (byte_at upload at) (byte_at upload (at + 1)) (byte_at upload (at + 2))).refusal

abbrev pub single : List ℕ → List ℕ → ℕ → List ℕ
single upload image i =
    let at = action_at upload i in
    step_image upload image (byte_at upload at) (byte_at upload (at + 1)) (byte_at upload (at + 2))

-- the image after the first k actions, each as a single step
unfoldable pub singles : List ℕ → List ℕ → ℕ → List ℕ
singles upload image zero = image
singles upload image (suc k) = single upload (singles upload image k) k

-- a replay is its single steps, one after another, from the fresh image
pub record IsSingles (upload begin : List ℕ) : Type 0 where
  -- it counts the actions that are taken, each of them as a single step
  pub taken : (i : ℕ) → i < (replayed upload).steps → single_refusal upload (singles upload begin i) i ≡ 0
  -- and leaves the image that they leave
  pub image : image_of (table_of upload) (replayed upload).state ≡ singles upload begin (replayed upload).steps
  -- it stops only at an action that is refused as a single step, by the same number
  pub most : (replayed upload).steps ≤ actions_of upload
  pub stopped : (replayed upload).steps < actions_of upload → ((replay_answer upload).refusal ≡ single_refusal upload (singles upload begin (replayed upload).steps) (replayed upload).steps) × ((replay_answer upload).refusal ≡ 0 → ⊥)
  pub all : (replayed upload).steps ≡ actions_of upload → (replay_answer upload).refusal ≡ 0

-- two uploads of one length that differ only in the bytes of their actions
pub record SameTable (one other : List ℕ) : Type 0 where
  pub size : length one ≡ length other
  pub bytes : (j : ℕ) → j < link_at (links_of one) → byte_at one j ≡ byte_at other j

-- every call but a replay answers the same of both, and leaves the same bytes
pub record ActionsUnread (one other : List ℕ) : Type 0 where
  pub fresh : (image : List ℕ) → fresh_answer one image ≡ fresh_answer other image
  pub image_of_fresh : (image : List ℕ) → fresh_image one image ≡ fresh_image other image
  pub report : (image : List ℕ) → report_answer one image ≡ report_answer other image
  pub list : (image buffer : List ℕ) → list_answer one image buffer ≡ list_answer other image buffer
  pub buffer_of_list : (image buffer : List ℕ) → list_buffer one image buffer ≡ list_buffer other image buffer
  pub step : (image : List ℕ) (kind x y : ℕ) → step_answer one image kind x y ≡ step_answer other image kind x y
  pub image_of_step : (image : List ℕ) (kind x y : ℕ) → step_image one image kind x y ≡ step_image other image kind x y
  pub run : (image : List ℕ) → run_answer one image ≡ run_answer other image
  pub image_of_run : (image : List ℕ) → run_image one image ≡ run_image other image

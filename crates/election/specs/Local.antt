-- The local facts: true of the fresh state and kept by every step.
use Rattle.std.specs.Prelude.{ℕ, ◌≤◌, ◌<◌, Bool, true, false, not, ◌≡◌, ◌⊎◌}
use Rattle.paper.specs.Table.{Table, source, target}
use Rattle.paper.specs.State.{none, request, acknowledgement, State}
use Rattle.paper.specs.Steps.{unheard}

-- Of each direction (i, b), from x = source to y = target, and its reverse (i, not b).
pub record Local (t : Table) (s : State) : Type 0 where
  -- x waits: no message on the direction, and it is not child
  pub silent : (i : ℕ) (b : Bool) → i < t.links → s.waiting (source t i b) ≡ true → s.message i b ≡ none
  pub childless : (i : ℕ) (b : Bool) → i < t.links → s.waiting (source t i b) ≡ true → s.child i b ≡ false
  -- a direction and its reverse are not both child
  pub one_way : (i : ℕ) (b : Bool) → i < t.links → s.child i b ≡ true → s.child i (not b) ≡ false
  -- a child direction carries no message
  pub quiet : (i : ℕ) (b : Bool) → i < t.links → s.child i b ≡ true → s.message i b ≡ none
  -- a request: the reverse is not child; an acknowledgement: it is
  pub asked : (i : ℕ) (b : Bool) → i < t.links → s.message i b ≡ request → s.child i (not b) ≡ false
  pub answered : (i : ℕ) (b : Bool) → i < t.links → s.message i b ≡ acknowledgement → s.child i (not b) ≡ true
  -- x stopped, y waits: a request is on the way, or the direction is child
  pub told : (i : ℕ) (b : Bool) → i < t.links → s.waiting (source t i b) ≡ false → s.waiting (target t i b) ≡ true → (s.message i b ≡ request) ⊎ (s.child i b ≡ true)
  -- both stopped, no child either way, no message: y contends
  pub met : (i : ℕ) (b : Bool) → i < t.links → s.waiting (source t i b) ≡ false → s.waiting (target t i b) ≡ false → s.child i b ≡ false → s.child i (not b) ≡ false → s.message i b ≡ none → s.contending (target t i b) ≡ true
  -- a node that contends does not wait
  pub settled : (x : ℕ) → x < t.nodes → s.contending x ≡ true → s.waiting x ≡ false
  -- x contends: the direction is not child
  pub free : (i : ℕ) (b : Bool) → i < t.links → s.contending (source t i b) ≡ true → s.child i b ≡ false
  -- x waits: y does not contend
  pub calm : (i : ℕ) (b : Bool) → i < t.links → s.waiting (source t i b) ≡ true → s.contending (target t i b) ≡ false
  -- y contends: no message on the direction
  pub heard : (i : ℕ) (b : Bool) → i < t.links → s.contending (target t i b) ≡ true → s.message i b ≡ none
  -- a node that has stopped waiting has at most one unheard direction
  pub at_most_one : (x : ℕ) → x < t.nodes → s.waiting x ≡ false → unheard t s x ≤ 1
  -- y is root: the direction is child
  pub rooted : (i : ℕ) (b : Bool) → i < t.links → s.root (target t i b) ≡ true → s.child i b ≡ true

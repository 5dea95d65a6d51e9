-- The published invariants of the automaton, by their published numbers, for every table, with loops or without.
use Rattle.std.specs.Prelude.{ℕ, ◌<◌, Bool, true, false, not, ◌≡◌, ◌⊎◌}
use Rattle.paper.specs.Table.{Table, source, target}
use Rattle.paper.specs.State.{none, request, acknowledgement, State}

-- The published names: init is waiting, contention is contending, mq[e] is the message on e, its head is true for an acknowledgement
-- and false for a request, and the reverse of e = (i, b) is (i, not b). Two numbers are left out: 5 says that a direction carries at
-- most one message, which the type of message says already; 15 stands below, because it speaks of all nodes together; `Invariants` is the whole list.
pub record Published (t : Table) (s : State) : Type 0 where
  -- a node that waits does not contend
  pub i1 : (v : ℕ) → v < t.nodes → s.waiting v ≡ true → s.contending v ≡ false
  -- a direction whose source waits carries no message
  pub i2 : (i : ℕ) (b : Bool) → i < t.links → s.waiting (source t i b) ≡ true → s.message i b ≡ none
  -- a direction whose source waits is not child
  pub i3 : (i : ℕ) (b : Bool) → i < t.links → s.waiting (source t i b) ≡ true → s.child i b ≡ false
  -- of two different directions into one node, which need not come from two nodes, one is child, or that node waits
  pub i4 : (i : ℕ) (b : Bool) (j : ℕ) (c : Bool) (v : ℕ) → i < t.links → j < t.links → target t i b ≡ v → target t j c ≡ v → ((j ≡ i) × (c ≡ b) → ⊥) → (s.waiting v ≡ true) ⊎ (s.child i b ≡ true) ⊎ (s.child j c ≡ true)
  -- a direction whose source waits does not lead to a node that contends
  pub i6 : (i : ℕ) (b : Bool) → i < t.links → s.waiting (source t i b) ≡ true → s.contending (target t i b) ≡ false
  -- a child direction carries no message
  pub i7 : (i : ℕ) (b : Bool) → i < t.links → s.child i b ≡ true → s.message i b ≡ none
  -- a direction into a node that contends carries no message
  pub i8 : (i : ℕ) (b : Bool) → i < t.links → s.contending (target t i b) ≡ true → s.message i b ≡ none
  -- the reverse of a direction with an acknowledgement is child
  pub i9 : (i : ℕ) (b : Bool) → i < t.links → s.message i b ≡ acknowledgement → s.child i (not b) ≡ true
  -- the reverse of a direction with a request is not child
  pub i10 : (i : ℕ) (b : Bool) → i < t.links → s.message i b ≡ request → s.child i (not b) ≡ false
  -- the reverse of a child direction is not child
  pub i11 : (i : ℕ) (b : Bool) → i < t.links → s.child i b ≡ true → s.child i (not b) ≡ false
  -- a direction out of a node that contends is not child
  pub i12 : (i : ℕ) (b : Bool) → i < t.links → s.contending (source t i b) ≡ true → s.child i b ≡ false
  -- every direction into a root is child
  pub i13 : (i : ℕ) (b : Bool) → i < t.links → s.root (target t i b) ≡ true → s.child i b ≡ true
  -- where (i, b) is child, every direction (j, c) into its source but its reverse is child
  pub i14 : (i : ℕ) (b : Bool) (j : ℕ) (c : Bool) → i < t.links → j < t.links → s.child i b ≡ true → source t i b ≡ target t j c → ((j ≡ i) × (c ≡ not b) → ⊥) → s.child j c ≡ true
  -- where the target waits, and there is neither child nor message, the source waits
  pub i16 : (i : ℕ) (b : Bool) → i < t.links → s.waiting (target t i b) ≡ true → s.child i b ≡ false → s.message i b ≡ none → s.waiting (source t i b) ≡ true
  -- where the source has stopped waiting, there is no message, and neither the direction nor its reverse is child, the target contends
  pub i17 : (i : ℕ) (b : Bool) → i < t.links → s.waiting (source t i b) ≡ false → s.message i b ≡ none → s.child i b ≡ false → s.child i (not b) ≡ false → s.contending (target t i b) ≡ true

-- every direction into v is child
abbrev pub AllChild : Table → State → ℕ → Type 0
AllChild t s v = (i : ℕ) (b : Bool) → i < t.links → target t i b ≡ v → s.child i b ≡ true

-- 15: at most one node has child on every direction into it
abbrev pub OneAllChild : Table → State → Type 0
OneAllChild t s = (v w : ℕ) → v < t.nodes → w < t.nodes → AllChild t s v → AllChild t s w → v ≡ w

-- The published invariants as one list:
pub record Invariants (t : Table) (s : State) : Type 0 where
  pub of_every_table : Published t s
  pub i15 : OneAllChild t s

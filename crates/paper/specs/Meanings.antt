-- What the computed tests of the other files mean, in plain terms.
use Rattle.std.specs.Prelude.{ℕ, suc, ◌+◌, ◌-◌, ◌*◌, ◌≤◌, ◌<◌, Bool, true, false, not, ◌≡◌, ◌⊎◌, ◌↔◌, List, [], ◌∷◌}
use Rattle.paper.specs.Upload.{byte_at}
use Rattle.paper.specs.Table.{Table, source, target}
use Rattle.paper.specs.State.{State, none}
use Rattle.paper.specs.Steps.{Step, children_known, add_child, acknowledge, resolve, become_root, possible}
use Rattle.paper.specs.Report.{moving}
use Rattle.paper.specs.Actions.{names, reading, refused_by, listed}
use Rattle.paper.specs.Lines.{digit}

-- no mark and no message outside the table
pub record Shown (t : Table) (s : State) : Type 0 where
  pub waiting : (x : ℕ) → t.nodes ≤ x → s.waiting x ≡ false
  pub contending : (x : ℕ) → t.nodes ≤ x → s.contending x ≡ false
  pub root : (x : ℕ) → t.nodes ≤ x → s.root x ≡ false
  pub child : (i : ℕ) (b : Bool) → t.links ≤ i → s.child i b ≡ false
  pub message : (i : ℕ) (b : Bool) → t.links ≤ i → s.message i b ≡ none

-- no waiting node has a message on a direction out of it
abbrev pub SoundMarks : Table → State → Type 0
SoundMarks t s = (i : ℕ) (b : Bool) → i < t.links → s.waiting (source t i b) ≡ true → s.message i b ≡ none

-- no two links join the same two nodes, either way round
abbrev pub NoRepeat : Table → Type 0
NoRepeat t =
    (i j : ℕ) (b : Bool) → i < t.links → j < t.links → t.end i false ≡ t.end j b → t.end i true ≡ t.end j (not b) → i ≡ j

-- some link goes from a node of the set S to a node outside it
abbrev pub LeftByLink : Table → (ℕ → Bool) → Type 0
LeftByLink t S = (i : ℕ) × (b : Bool) × (i < t.links) × (S (t.end i b) ≡ true) × (S (t.end i (not b)) ≡ false)

-- every set of nodes with a node inside and a node outside is left by some link
abbrev pub Cut : Table → Type 0
Cut t = (S : ℕ → Bool) (x y : ℕ) → x < t.nodes → y < t.nodes → S x ≡ true → S y ≡ false → LeftByLink t S

-- the three bytes of a step: its kind, the node or the source of its direction, 255 or the target
abbrev pub kind_of : Step → ℕ
kind_of (children_known x) = 1
kind_of (add_child i b) = 2
kind_of (acknowledge i b) = 3
kind_of (resolve i b) = 4
kind_of (become_root x) = 5

abbrev pub first_of : Table → Step → ℕ
first_of t (children_known x) = x
first_of t (add_child i b) = source t i b
first_of t (acknowledge i b) = source t i b
first_of t (resolve i b) = source t i b
first_of t (become_root x) = x

abbrev pub second_of : Table → Step → ℕ
second_of t (children_known x) = 255
second_of t (add_child i b) = target t i b
second_of t (acknowledge i b) = target t i b
second_of t (resolve i b) = target t i b
second_of t (become_root x) = 255

-- the bytes kind, x, y stand in a list of threes as one of them
abbrev pub Stands : ℕ → ℕ → ℕ → List ℕ → Type 0
Stands kind x y [] = ⊥
Stands kind x y (a ∷ []) = ⊥
Stands kind x y (a ∷ b ∷ []) = ⊥
Stands kind x y (a ∷ b ∷ c ∷ rest) = ((a ≡ kind) × (b ≡ x) × (c ≡ y)) ⊎ Stands kind x y rest

-- three bytes as one number, the first byte highest: these numbers ascend as the bytes do, by kind, then x, then y
abbrev pub three : ℕ → ℕ → ℕ → ℕ
three kind x y = 65536 * kind + 256 * x + y

-- a list of threes as numbers: the first is low or more, each is greater than the one before, all are below high
abbrev pub Ascending : ℕ → ℕ → List ℕ → Type 0
Ascending low high [] = low ≤ high
Ascending low high (a ∷ []) = ⊥
Ascending low high (a ∷ b ∷ []) = ⊥
Ascending low high (a ∷ b ∷ c ∷ rest) = (low ≤ three a b c) × Ascending (suc (three a b c)) high rest

-- the list holds exactly the steps that are possible, each once, ascending
pub record ListsSteps (t : Table) (s : State) : Type 0 where
  -- three bytes stand in the list exactly when the action that they are can be taken
  pub exactly : (kind x y : ℕ) → Stands kind x y (listed t s) ↔ (refused_by t s (reading t kind x y) ≡ 0)
  -- they ascend, so each stands there once
  pub ascending : Ascending (three 1 0 0) (three 6 0 0) (listed t s)
  -- a possible step's three bytes stand in the list, and are read as that step
  pub every : (x : Step) → possible t s x ≡ true → Stands (kind_of x) (first_of t x) (second_of t x) (listed t s) × (reading t (kind_of x) (first_of t x) (second_of t x) ≡ names x)
  -- no other three bytes are read as that step
  pub once : (x : Step) (kind a b : ℕ) → reading t kind a b ≡ names x → (kind ≡ kind_of x) × (a ≡ first_of t x) × (b ≡ second_of t x)
  -- the list is empty exactly when no step is possible
  pub empty : (listed t s ≡ []) ↔ (moving t s ≡ false)

-- every byte is a digit
abbrev pub Digits : List ℕ → Type 0
Digits [] = Unit {0}
Digits (d ∷ rest) = (digit 0 ≤ d) × (d ≤ digit 9) × Digits rest

-- the number that digits show behind those already read
abbrev pub value_from : ℕ → List ℕ → ℕ
value_from read [] = read
value_from read (d ∷ rest) = value_from (10 * read + (d - digit 0)) rest

-- a list of bytes is the number k in decimal
pub record InDecimal (k : ℕ) (l : List ℕ) : Type 0 where
  pub all_digits : Digits l
  pub value : value_from 0 l ≡ k
  -- 0 is one digit, and any other number begins with no zero
  pub zero_alone : k ≡ 0 → l ≡ digit 0 ∷ []
  pub no_zero_first : 0 < k → digit 0 < byte_at l 0

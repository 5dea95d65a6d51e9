-- The direction with the least pair of nodes on which a step is possible.
use Rattle.std.specs.Prelude.{ℕ, ◌+◌, ◌*◌, ◌<◌, ◌≤◌, Bool, true, false, ◌≡◌, Option, MatchOption}
use Rattle.counting.specs.Count.{bit}
use Rattle.paper.specs.Table.{Table, source, target}
use Rattle.paper.specs.State.{State}
use Rattle.paper.specs.Steps.{possible}
use Rattle.paper.specs.Actions.{link_step}
use Rattle.upload.specs.Kinds.{link_number}
use Rattle.upload.specs.declared.Direction.{Direction}
use Rattle.upload.specs.declared.step.LinkKind.{LinkKind}

-- the number of a direction
abbrev pub number : ℕ → Bool → ℕ
number i b = 2 * i + bit b

-- the nodes of a direction as one number: its source, then its target
abbrev pub pair : Table → ℕ → Bool → ℕ
pair t i b = 256 * source t i b + target t i b

-- the step of a kind is possible on a direction
abbrev pub may_on : Table → State → LinkKind → ℕ → Bool → Bool
may_on t s kind i b = possible t s (link_step (link_number kind) i b)

-- a direction behind its pair: the step is possible on it, and the pair is the least of those of the first k directions on which it is
pub record Near (t : Table) (s : State) (kind : LinkKind) (k : ℕ) (p : ℕ × Direction) : Type 0 where
  pub is : p.0 ≡ pair t p.1.link p.1.back
  pub may : may_on t s kind p.1.link p.1.back ≡ true
  pub least : (i : ℕ) (b : Bool) → number i b < k → may_on t s kind i b ≡ true → p.0 ≤ pair t i b

-- r is that direction, none where the step is possible on none of the first k
abbrev pub Nearest : Table → State → LinkKind → ℕ → Option (ℕ × Direction) → Type 0
Nearest t s kind k r = MatchOption r ((i : ℕ) (b : Bool) → number i b < k → may_on t s kind i b ≡ false) (Near t s kind k)

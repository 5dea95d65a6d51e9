-- The first of the possible steps of some kinds.
use Rattle.std.specs.Prelude.{ℕ, ◌≤◌, true, false, ◌≡◌, Option, MatchOption}
use Rattle.paper.specs.Table.{Table}
use Rattle.paper.specs.State.{State}
use Rattle.paper.specs.Steps as paper
use Rattle.paper.specs.Steps.{possible}
use Rattle.paper.specs.Meanings.{kind_of, first_of, second_of, three}
use Rattle.upload.specs.Kinds.{meant}
use Rattle.upload.specs.declared.step.Step.{Step}

-- where a step stands in the list: its three bytes as one number
abbrev pub rank : Table → paper.Step → ℕ
rank t x = three (kind_of x) (first_of t x) (second_of t x)

-- no step of kinds low to high is possible
pub record NoneOf (t : Table) (s : State) (low high : ℕ) : Type 0 where
  pub none : (y : paper.Step) → low ≤ kind_of y → kind_of y ≤ high → possible t s y ≡ false

-- x is possible, of a kind from low to high, and stands first of all such steps
pub record First (t : Table) (s : State) (low high : ℕ) (x : paper.Step) : Type 0 where
  pub may : possible t s x ≡ true
  pub from : low ≤ kind_of x
  pub to : kind_of x ≤ high
  pub least : (y : paper.Step) → low ≤ kind_of y → kind_of y ≤ high → possible t s y ≡ true → rank t x ≤ rank t y

-- r is the first of the possible steps of kinds low to high, none where there is none
abbrev pub Least : Table → State → ℕ → ℕ → Option Step → Type 0
Least t s low high r = MatchOption r (NoneOf t s low high) (λ x. First t s low high (meant x))

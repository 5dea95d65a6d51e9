-- The first step of a list of steps.
use Rattle.std.specs.Prelude.{ℕ, List, [], ◌∷◌, ◌≡◌, Option, MatchOption}
use Rattle.paper.specs.Table.{Table}
use Rattle.paper.specs.Steps as paper
use Rattle.paper.specs.Actions.{names, reading}
use Rattle.paper.specs.Meanings.{kind_of, first_of, second_of}
use Rattle.upload.specs.declared.step.Step.{Step}
use Rattle.upload.specs.Kinds.{meant}

-- the list begins with the three bytes of x, and they are read as x
pub record Begins (t : Table) (l : List ℕ) (x : paper.Step) : Type 0 where
  pub rest : List ℕ
  pub begins : l ≡ kind_of x ∷ first_of t x ∷ second_of t x ∷ rest
  pub reads : reading t (kind_of x) (first_of t x) (second_of t x) ≡ names x

-- r is the step with which l begins, none where l is empty
abbrev pub Leads : Table → List ℕ → Option Step → Type 0
Leads t l r = MatchOption r (l ≡ []) (λ x. Begins t l (meant x))

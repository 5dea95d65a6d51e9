-- An answer as it is shown: the six numbers in decimal, in document 01's order, one space between.
use Rattle.std.specs.Prelude.{ℕ, List, ◌∷◌, ◌++◌, decimal}
use Rattle.paper.specs.declared.Answer.{Answer}
use Rattle.paper.specs.Lines.{space}

abbrev pub shown : Answer → List ℕ
shown a =
    decimal a.refusal
    ++ (space ∷ decimal a.place
    ++ (space ∷ decimal a.steps
    ++ (space ∷ decimal a.outcome
    ++ (space ∷ decimal a.root
    ++ (space ∷ decimal a.waiting)))))

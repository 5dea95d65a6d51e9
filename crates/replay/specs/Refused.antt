-- What the inner functions answer, as a call answers it.
use Rattle.std.specs.Prelude.{ℕ, ◌≡◌, Result, Ok, Err}
use Rattle.paper.specs.declared.Answer.{Answer}
use Rattle.paper.specs.Refusals as paper
use Rattle.paper.specs.Calls.{refused_with}
use Rattle.table.specs.Told.{meant}
use Rattle.automaton.specs.declared.Refused as automaton
use Rattle.automaton.specs.Tried.{refused_number}
use Rattle.replay.specs.declared.refusal.Refusal.{Refusal}
use Rattle.replay.specs.declared.refusal.Refusal.TheVariants.{Table, Image, Room}

-- the refusal of document 01 that a call's refusal is
abbrev pub given_by : Refusal → paper.Refusal
given_by (Table r) = meant r
given_by Image = record { number = 12; place = 0 }
given_by Room = record { number = 13; place = 0 }

-- the answer of a call: its own, or that of its refusal
abbrev pub answer_of : Result Answer Refusal → Answer
answer_of (Ok a) = a
answer_of (Err r) = refused_with (given_by r)

-- a refusal as an answer
abbrev pub Refuses : Refusal → Answer → Type 0
Refuses r a = a ≡ refused_with (given_by r)

-- the number by which an action is refused, 0 where it was taken
abbrev pub number_of : {X : Type 0} → Result X automaton.Refused → ℕ
number_of (Ok x) = 0
number_of (Err r) = refused_number r

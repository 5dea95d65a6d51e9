-- What the reader's refusals and answers say, by the numbers and places of document 01.
use Rattle.std.specs.Prelude.{ℕ, Result, Ok, Err}
use Rattle.paper.specs.Refusals as paper
use Rattle.table.specs.declared.refusal.Refusal.{Refusal}
use Rattle.table.specs.declared.refusal.Refusal.TheVariants.{Length, Range, NamesNoNode, JoinsItself, Repeats, Pieces}

-- the number of the check that refuses
abbrev pub number : Refusal → ℕ
number Length = 3
number Range = 4
number (NamesNoNode i) = 5
number (JoinsItself i) = 6
number (Repeats i) = 7
number Pieces = 8

-- the number of the link, 0 where the ground is not a link
abbrev pub place : Refusal → ℕ
place Length = 0
place Range = 0
place (NamesNoNode i) = i
place (JoinsItself i) = i
place (Repeats i) = i
place Pieces = 0

-- the refusal of document 01 that a refusal is
abbrev pub meant : Refusal → paper.Refusal
meant r = record { number = number r; place = place r }

-- what an answer says: accepted, or refused by a number at a place
abbrev pub told : {X : Type 0} → Result X Refusal → paper.Refusal
told (Ok x) = paper.accepted
told (Err r) = meant r

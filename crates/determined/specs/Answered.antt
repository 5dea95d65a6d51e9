-- That a function's contract has an answer for every input.
--     ps, r      the kinds of the parameters and of the result: the function's generated module Kinds
--     Pre        what the requires says of the arguments; Learnt: what the ensures says of the arguments, the result and the parameters at exit, as in Determined
--     κs, a      the lifetimes and the arguments: any that are values of their types (GoodsP: a number is below 2 to the power of its bits) and meet the requires, so all where there is none
-- There are a result z and last contents w, a place for each parameter in turn, that meet the ensures; z is a value of its type (Ok), and what is left in a lent slice is as long as what was lent (fits_of).
-- With Determined they are the only ones. That the function returns them is its own proof.
-- The theorem of a function `f` is `f_answered : Answered f.Kinds.ps f.Kinds.r f.Reads.Pre f.Reads.Learnt`.
use Rattle.std.specs.Prelude.{List, ℕ}
use contract.Lifetimes.{Lfts}
use denote.Triple.Clauses.{Lasts, at_exit}
use denote.Triple.Walked.{fits_of}
use borrow.Fn.Kinds.{ParamKind, ResultKind, In, Out, Dens, GoodsP, slots, kepts, stays, res_t, ended_of}

abbrev pub Answered : {n : ℕ} (ps : List (ParamKind n)) (r : ResultKind n) → In n ps → Out n ps r → Type 0
Answered {n} ps r Pre Learnt =
    (κs : Lfts n) (a : Dens κs ps) → GoodsP κs ps a → Pre κs a →
    (z : (res_t r κs).Denot) × (w : Lasts (ended_of n ps r) κs a)
    × Learnt κs a z (at_exit (ended_of n ps r) κs a w)
    × r.is.Ok κs z
    × fits_of κs (slots ps) (kepts ps) (stays ps) a w

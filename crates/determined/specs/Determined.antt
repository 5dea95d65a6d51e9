-- That a function's contract allows no second answer and no second content of a buffer lent to it.
--     ps, r      the kinds of the parameters and of the result: the function's generated module Kinds
--     Pre        what the requires says of the arguments; Learnt: what the ensures says of the arguments, the result and the parameters at exit. They are the function's generated module Reads, read off the contract's own clauses: a changed clause changes them
--     κs, a      the lifetimes and the arguments: any at all that meet the requires, so all where there is none
--     z, z'      two results
--     w, w'      two tuples with a place for each parameter in turn: the content that it is left with where it is lent by `&mut`, and nothing where it is not
-- Where both answers meet the ensures, the results are equal and every lent buffer is left with equal contents. That there is such an answer is what the function's own proof says.
-- The theorem of a function `f` is `f_determined : Determined f.Kinds.ps f.Kinds.r f.Reads.Pre f.Reads.Learnt`.
use Rattle.std.specs.Prelude.{◌≡◌, List, ℕ}
use contract.Lifetimes.{Lfts}
use denote.Triple.Clauses.{Lasts, at_exit}
use borrow.Fn.Kinds.{ParamKind, ResultKind, In, Out, Dens, res_t, ended_of}

abbrev pub Determined : {n : ℕ} (ps : List (ParamKind n)) (r : ResultKind n) → In n ps → Out n ps r → Type 0
Determined {n} ps r Pre Learnt =
    (κs : Lfts n) (a : Dens κs ps) → Pre κs a →
    (z z' : (res_t r κs).Denot) (w w' : Lasts (ended_of n ps r) κs a) →
    Learnt κs a z (at_exit (ended_of n ps r) κs a w) →
    Learnt κs a z' (at_exit (ended_of n ps r) κs a w') →
    (z ≡ z') × (w ≡ w')

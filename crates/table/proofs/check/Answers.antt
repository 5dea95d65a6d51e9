-- `check` meets its contract: an upload that passes every check is accepted.
use Rattle.std.proofs.Common.{sym, ap}
use Rattle.paper.specs.Refusals.{Refusal}
use Rattle.cabling.proofs.Passed.{passes}
use Rattle.table.proofs.Laws.{accepted_table, accepted_laws}
use Rattle.table.proofs.check.Goals as goal

pub invariant_of-result : goal.invariant_of-result
invariant_of-result c = record { passes = passes (accepted_laws _ (ap (λ (r : Refusal). r.number) (accepted_table c.in_ok-exact.exact.passes c.in_ok-check_links.ensures.passed c.in_ok-check_piece.ensures.passed))) }

pub returns-clause-told : goal.returns-clause-told
returns-clause-told c = rw (← c.in_ok-exact.ensures.same) (sym (accepted_table c.in_ok-exact.exact.passes c.in_ok-check_links.ensures.passed c.in_ok-check_piece.ensures.passed))

-- As a term, so that another mark falls at the mark.
use Rattle.std.proofs.Common.{sym, ◌∙◌}
use Rattle.automaton.proofs.Possible.{becomes}
use Rattle.automaton.proofs.node_possible.Goals as goal

pub returns-then-not-root : goal.returns-then-not-root
returns-then-not-root c =
    rw c.in-BecomeRoot.is (becomes _ _ _ c.requires (sym c.if-not-root.true ∙ c.root.ensures) c.unheard_within-then-not-root.ensures)

-- `place` meets its contract at a refusal of a link.
use Rattle.std.proofs.Common.{⊎_elim, sym, ap, ◌∙◌}
use Rattle.table.specs.Told.{place}
use Rattle.table.proofs.refusal.Refusal.place.Goals as goal

pub returns-in-NamesNoNode : goal.returns-in-NamesNoNode
returns-in-NamesNoNode c =
    c.from.ensures
    ∙ ⊎_elim (λ e. sym (ap place e)) (⊎_elim (λ e. sym (ap place e)) (λ e. sym (ap place e))) c.in-NamesNoNode.is

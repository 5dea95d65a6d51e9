use Rattle.std.proofs.lemmas.List.{length-take-le}
use Rattle.batch.proofs.Text.{all_shown}
use Rattle.batch.proofs.accepted_lines.Goals as goal

pub returns : goal.returns
returns c =
    rw (length-take-le c.args.entries _ c.requires, all_shown c.args.entries _ c.requires) at c.entry_lines.ensures

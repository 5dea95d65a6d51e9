use Rattle.std.proofs.Common.{◌∙◌}
use Rattle.saved.specs.Saved.{totals_line}
use Rattle.saved.proofs.Decimal.{printed_wide}
use Rattle.saved.proofs.totals_line.Goals as goal

pub returns : goal.returns
unfolding totals_line
returns c =
    let answered = c.as_bytes.ensures.value ∙ c.format.ensures.text ∙ printed_wide c.args.answered c.ranges.answered.fits in
    let unread = c.as_bytes-2.ensures.value ∙ c.format-2.ensures.text ∙ printed_wide c.args.unread c.ranges.unread.fits in
    rw (← answered, ← unread) c.line.ensures

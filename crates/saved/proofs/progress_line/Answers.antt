use Rattle.std.proofs.Common.{◌∙◌}
use Rattle.saved.specs.Saved.{progress_line}
use Rattle.saved.proofs.Decimal.{printed_wide}
use Rattle.saved.proofs.progress_line.Goals as goal

pub returns : goal.returns
unfolding progress_line
returns c =
    let files = c.as_bytes.ensures.value ∙ c.format.ensures.text ∙ printed_wide c.args.files c.ranges.files.fits in
    rw (← files) c.line.ensures

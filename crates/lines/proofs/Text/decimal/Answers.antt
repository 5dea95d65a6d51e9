use Rattle.std.proofs.Common.{arith}
use Rattle.paper.specs.Lines.{decimal}
use Rattle.lines.specs.Text.{Writes}
use Rattle.lines.proofs.Written.{then}
use Rattle.lines.proofs.Decimal.{digits_reached, digits_most}
use Rattle.lines.proofs.Text.decimal.Goals as goal

pub returns : goal.returns
returns c =
    let whole : Writes c.args.self.now (decimal c.args.k) c.push.new.self = rw (digits_reached 4 c.args.k (omega (arith, c.ranges.k.fits))) (then (then (then (then c.digit.ensures c.digit-2.ensures) c.digit-3.ensures) c.digit-4.ensures) c.push.ensures) in
    (whole, omega (arith, whole.place, digits_most 4 c.args.k))

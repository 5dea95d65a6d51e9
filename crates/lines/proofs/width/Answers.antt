use Rattle.std.proofs.Common.{arith}
use Rattle.lines.proofs.Decimal.{decimal_width, digits_most}
use Rattle.lines.proofs.width.Goals as goal

pub returns : goal.returns
returns c = omega (arith, decimal_width c.args.k (omega (arith, c.ranges.k.fits)), digits_most 4 c.args.k)

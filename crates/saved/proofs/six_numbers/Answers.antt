use Rattle.std.proofs.Common.{arith}
use Rattle.saved.proofs.Numbers.{written}
use Rattle.saved.proofs.six_numbers.Goals as goal

pub slice_bounds-result-count : goal.slice_bounds-result-count
slice_bounds-result-count c =
    omega (arith, c.from-n.ensures, (written c.args.answer c.write.result c.args.buffer.now _ c.write.ensures c.told-buffer).some)

pub slice_bounds-result-start : goal.slice_bounds-result-start
slice_bounds-result-start c =
    omega (arith, c.from-n.ensures, (written c.args.answer c.write.result c.args.buffer.now _ c.write.ensures c.told-buffer).some)

pub slice_bounds-result-end : goal.slice_bounds-result-end
slice_bounds-result-end c = rw c.from-n.ensures (written c.args.answer c.write.result c.args.buffer.now _ c.write.ensures c.told-buffer).most

pub returns : goal.returns
returns c = rw c.from-n.ensures (written c.args.answer c.write.result c.args.buffer.now _ c.write.ensures c.told-buffer).text

-- `image_length` meets its contract: a byte for each node, and two for each link.
use Rattle.std.proofs.Common.{arith}
use Rattle.cabling.proofs.Cabling.image_length.Goals as goal

pub returns : goal.returns
returns c = (omega (arith, c.nodes.ensures.0, c.links.ensures.0), omega arith)

-- `links` meets its contract: the number is the upload's.
use Rattle.std.proofs.Common.{rules}
use Rattle.cabling.proofs.Cabling.links.Goals as goal

pub returns : goal.returns
returns c = (c.links.ensures.0, search rules)

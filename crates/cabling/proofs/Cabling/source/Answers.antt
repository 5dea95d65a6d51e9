-- `source` meets its contract: the direction's own end of the link.
use Rattle.cabling.proofs.Cabling.source.Goals as goal

pub returns : goal.returns
returns c =
    (c.end.ensures.0, rw c.end.ensures.0 (c.args.self.now.passes.ends c.args.d.link c.args.d.back c.requires))

use Rattle.listing.proofs.Written.{appends_start, appends_next}
use Rattle.listing.proofs.node_entries.Goals as goal

pub loop-x-init : goal.loop-x-init
loop-x-init c = appends_start _ 1 _

pub loop-x-preserved : goal.loop-x-preserved
loop-x-preserved c =
    appends_next 1 c.loop-x.x _ c.loop-x.invariant c.node_entry.ensures

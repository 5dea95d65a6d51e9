use borrow.Author.Rules.{rules}
use native.Mathlib.Omega.{arith}
use Rattle.counting.specs.Count.{joined}
use Rattle.paper.specs.Actions.{listed}
use Rattle.listing.proofs.Written.{appends_more, wrote_left}
use Rattle.listing.proofs.list_into.Goals as goal

pub returns : goal.returns
unfolding listed joined
returns c =
    let all = appends_more (appends_more (appends_more (appends_more c.node_entries.ensures c.link_entries.ensures) c.link_entries-2.ensures) c.link_entries-3.ensures) c.node_entries-2.ensures in
    (wrote_left (search rules) all.wrote, omega (arith, all.few))

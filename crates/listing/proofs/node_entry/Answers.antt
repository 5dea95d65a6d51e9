use borrow.Author.Rules.{rules}
use Rattle.upload.specs.Kinds.{node_number}
use Rattle.marks.specs.Shown.{table, shown}
use Rattle.marks.proofs.Viewed.{lent}
use Rattle.listing.proofs.Entries.{node_entries}
use Rattle.listing.proofs.Written.{appends_none, appends_as}
use Rattle.listing.proofs.node_entry.Goals as goal

pub returns-after-kind : goal.returns-after-kind
returns-after-kind c =
    let view = c.args.view.now in
    let entries = node_entries (table view) (shown view) (node_number c.args.kind) c.args.x (lent view).table.nodes_fit c.requires.0 (search rules) in
    appends_as (rw (entries, ← c.if-node_possible.ensures) (search rules)) c.push.ensures

pub returns-else-node_possible : goal.returns-else-node_possible
returns-else-node_possible c =
    let view = c.args.view.now in
    let entries = node_entries (table view) (shown view) (node_number c.args.kind) c.args.x (lent view).table.nodes_fit c.requires.0 (search rules) in
    rw (entries, ← c.if-node_possible.ensures) (appends_none _ 1)

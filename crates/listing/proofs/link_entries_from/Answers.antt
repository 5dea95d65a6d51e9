use borrow.Author.Rules.{rules}
use mathlib.Core.Path.{◌≡◌, sym}
use native.Mathlib.Omega.{arith}
use Rattle.upload.specs.Kinds.{link_number}
use Rattle.marks.specs.Shown.{table, shown}
use Rattle.marks.proofs.Viewed.{lent}
use Rattle.listing.proofs.Linked.{noted_all}
use Rattle.listing.proofs.Entries.{link_entries, link_entry}
use Rattle.listing.proofs.Written.{appends_start, appends_next, appends_same, appends_as, appends_end, appends_most}
use Rattle.listing.proofs.link_entries_from.Goals.{then-may_list, else-may_list}
use Rattle.listing.proofs.link_entries_from.Goals as goal

pub loop-y-init : goal.loop-y-init
loop-y-init c = appends_start _ 1 _

pub loop-y-preserved : goal.loop-y-preserved
loop-y-preserved c =
    let now = c.loop-y in
    let view = c.args.view.now in
    let kind = c.args.kind in
    let noted = c.links_from-links.ensures in
    let at_y = link_entry (table view) (shown view) (link_number kind) c.args.x (lent view).table.nodes_fit c.requires.0 (search rules) (search rules) now.y _ (omega arith) (noted_all noted now.y (omega arith)) (noted.links now.y (omega arith)) in
    elim c.if-may_list.branch [
      | then-may_list w ↦ rw w.writer-is (appends_next 1 now.y _ now.invariant (appends_as (rw (at_y, ← w.if-may_list.ensures) (search rules)) w.push.ensures))
      | else-may_list w ↦ rw w.writer-is (appends_same 1 now.y _ now.invariant (rw (at_y, ← w.if-may_list.ensures)))
    ]

pub returns : goal.returns
returns c =
    let now = c.loop-y in
    let view = c.args.view.now in
    let kind = c.args.kind in
    let all : now.y ≡ (table view).nodes = omega arith in
    appends_as (sym (link_entries (table view) (shown view) (link_number kind) c.args.x (lent view).table.nodes_fit c.requires.0 (search rules) (search rules)))
    (appends_most 63 (omega (arith, (lent view).table.nodes_fit)) (appends_end 1 now.y _ _ all now.invariant))

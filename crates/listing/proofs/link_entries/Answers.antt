use borrow.Author.Rules.{rules}
use mathlib.Core.Bool.{false}
use mathlib.Core.Path.{◌≡◌, ap}
use Rattle.upload.specs.declared.step.LinkKind.TheVariants.{Resolve}
use Rattle.upload.specs.Kinds.{link_number}
use Rattle.marks.specs.Shown.{table, shown}
use Rattle.listing.proofs.Resting.{none_of_four}
use Rattle.listing.proofs.Written.{appends_start, appends_next, appends_same}
use Rattle.listing.proofs.link_entries.Goals.{then-ne, else-ne+else-contending}
use Rattle.listing.proofs.link_entries.Goals as goal

pub loop-x-init : goal.loop-x-init
loop-x-init c = appends_start _ 63 _

pub loop-x-preserved : goal.loop-x-preserved
loop-x-preserved c =
    let now = c.loop-x in
    let view = c.args.view.now in
    elim c.if-ne.branch [
      | then-ne w ↦ rw w.writer-is (appends_next 63 now.x _ now.invariant w.link_entries_from.ensures)
      | else-ne+else-contending w ↦
          let resolve : c.args.kind ≡ Resolve = search rules in
          let rests : (shown view).contending now.x ≡ false = search rules in
          rw w.writer-is (appends_same 63 now.x _ now.invariant (rw (ap link_number resolve) (none_of_four (table view) (shown view) now.x rests)))
    ]

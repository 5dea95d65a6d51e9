-- `join_links` meets its contract. The loop's invariant: the bytes are the labels after i links.
use Rattle.std.proofs.Common.{rules}
use Rattle.table.specs.Exact.{table}
use Rattle.table.proofs.Labels.{labelled_more}
use Rattle.table.proofs.OneLink.{passed_ends}
use Rattle.table.proofs.Exact.join_links.Goals as goal

pub join_link-requires : goal.join_link-requires
join_link-requires c =
    let t = table c.args.self.now in
    (search rules, λ b. rw c.loop-i.invariant.count (passed_ends t _ (c.requires.0 c.loop-i.i (search rules)) b))

pub loop-i-preserved : goal.loop-i-preserved
loop-i-preserved c =
    let t = table c.args.self.now in
    labelled_more t _ _ _ (passed_ends t _ (c.requires.0 c.loop-i.i (search rules))) c.loop-i.invariant c.join_link.ensures

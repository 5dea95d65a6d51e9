-- `check_piece` meets its contract, in each arm of its test.
use Rattle.std.proofs.Common.{rules, arith, ◌≡◌, sym, ◌∙◌}
use Rattle.paper.specs.Table.{one_piece}
use Rattle.table.specs.Exact.{table}
use Rattle.table.proofs.Labels.{labelled_none, labelled_same}
use Rattle.table.proofs.Answers.{header_passed, passed_links}
use Rattle.table.proofs.OneLink.{link_passes}
use Rattle.table.proofs.Exact.check_piece.Goals as goal
use Rattle.table.proofs.Exact.check_piece.Goals.{After-all_same}

-- all labels are the same where the table is in one piece
same : (c : After-all_same) → c.all_same.result ≡ one_piece (table c.args.self.now)
same c = c.all_same.ensures ∙ labelled_same _ _ c.args.self.now.passes.range.some_node c.join_links.ensures

pub join_links-requires : goal.join_links-requires
join_links-requires c = (c.requires, labelled_none _ _ _ (search rules) c.number_nodes.ensures)

pub returns-then-all_same-clause-passed : goal.returns-then-all_same-clause-passed
returns-then-all_same-clause-passed c = sym (same (goal.at.returns-then-all_same-clause-passed c).After-all_same) ∙ c.if-all_same.true

pub returns-else-all_same-clause-refused : goal.returns-else-all_same-clause-refused
returns-else-all_same-clause-refused c =
    let upload = c.args.self.now.upload.bytes.now in
    sym (header_passed upload c.args.self.now.passes ∙ passed_links upload (λ i p h. link_passes (table c.args.self.now) i (c.requires i (omega arith))) ∙ rw (← same (goal.at.returns-else-all_same-clause-refused c).After-all_same, c.if-all_same.false))

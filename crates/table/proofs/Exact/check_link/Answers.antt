-- `check_link` meets its contract: a link that joins a node to itself is refused by 6 where both of its ends are nodes.
use Rattle.std.proofs.Common.{sym, ◌∙◌, arith}
use Rattle.table.specs.Exact.{table}
use Rattle.table.proofs.OneLink.{names_none, link_itself}
use Rattle.table.proofs.Exact.check_link.Goals as goal

pub returns-then-p-q : goal.returns-then-p-q
returns-then-p-q c =
    let t = table c.args.self.now in
    let named = names_none t c.args.i (omega arith) (omega arith) in
    sym (link_itself t c.args.i named (sym c.end-p.ensures.0 ∙ c.if-p-q.true ∙ c.end-q.ensures.0))

-- `check_links` meets its contract. The loop's invariant: the links below i pass.
use Rattle.std.proofs.Common.{rules, ◌≡◌, arith, sym, ◌∙◌, ap}
use Rattle.paper.specs.Table.{table_of}
use Rattle.paper.specs.Refusals.{Refusal, table_refusal, link_refusal}
use Rattle.table.specs.Told.{meant}
use Rattle.table.proofs.OneLink.{link_passed}
use Rattle.table.proofs.Told.{refuses}
use Rattle.table.proofs.Answers.{header_passed, refused_link}
use Rattle.table.proofs.Exact.check_links.Goals as goal

pub returns-in_err-check_link-clause-refused : goal.returns-in_err-check_link-clause-refused
returns-in_err-check_link-clause-refused c =
    let upload = c.args.self.now.upload.bytes.now in
    let given : meant c.in_err-check_link.field-0.0 ≡ link_refusal (table_of upload) c.loop-i.i = c.in_err-check_link.ensures in
    let whole : meant c.in_err-check_link.field-0.0 ≡ table_refusal upload =
    given ∙ sym (header_passed upload c.args.self.now.passes ∙ refused_link upload c.loop-i.i (search rules) c.loop-i.invariant (λ e. refuses _ (ap (λ (r : Refusal). r.number) given ∙ e))) in
    search rules

pub returns-clause-passed : goal.returns-clause-passed
returns-clause-passed c = λ i h. link_passed (table_of c.args.self.now.upload.bytes.now) i (c.loop-i.invariant i (omega arith) (search rules))

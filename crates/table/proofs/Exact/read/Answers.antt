-- `read` meets its contract: each return is the refusal of the first check that refuses.
use Rattle.std.proofs.Common.{◌≡◌, sym, ◌∙◌, arith, lt-ltb, le-ltb, ne_eqb}
use Rattle.table.proofs.Answers.{range_of, refused_short, refused_range, refused_length}
use Rattle.table.proofs.Exact.read.Goals as goal
use Rattle.table.proofs.Exact.read.Goals.{After-in_range}

pub returns-then-upload-lt4-clause-refused : goal.returns-then-upload-lt4-clause-refused
returns-then-upload-lt4-clause-refused c = sym (refused_short _ (lt-ltb _ _ (omega arith)))

-- what `in_range` was asked is asked of the upload
range : (c : After-in_range) → c.in_range.result ≡ range_of c.args.upload.now
range c = rw (c.nodes.ensures.0, c.links-m.ensures.0, c.actions-a.ensures.0) at c.in_range.ensures

pub returns-then-not-in_range-clause-refused : goal.returns-then-not-in_range-clause-refused
returns-then-not-in_range-clause-refused c =
    let asked = range (goal.at.returns-then-not-in_range-clause-refused c).After-in_range in
    sym (refused_range _ (le-ltb _ _ (omega arith)) (sym asked ∙ c.if-not-in_range.true))

pub returns-then-upload-m-clause-refused : goal.returns-then-upload-m-clause-refused
returns-then-upload-m-clause-refused c =
    let asked = range (goal.at.returns-then-upload-m-clause-refused c).After-in_range in
    sym (refused_length _ (le-ltb _ _ (omega arith)) (sym asked ∙ c.if-not-in_range.false) (ne_eqb _ _ (λ e. c.if-upload-m.true (omega arith))))

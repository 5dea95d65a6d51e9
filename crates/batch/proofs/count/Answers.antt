use mathlib.Core.Path.{refl}
use lib.ListN.{length}
use borrow.Author.Tests.{lt-ltb, le-ltb}
use Rattle.paper.specs.Batch.{header_wrong}
use Rattle.batch.proofs.count.Goals as goal

pub returns-then-size-lt4 : goal.returns-then-size-lt4
unfolding header_wrong
returns-then-size-lt4 c = (refl, rw (lt-ltb (length c.args.batch.now) 4 c.if-size-lt4.true))

pub returns-then-size-entries : goal.returns-then-size-entries
unfolding header_wrong
returns-then-size-entries c =
    (refl, rw (le-ltb (length c.args.batch.now) 4 c.if-size-lt4.false, ← c.four-entries.ensures.0) c.if-size-entries.true)

pub returns : goal.returns
unfolding header_wrong
returns c =
    (rw (le-ltb (length c.args.batch.now) 4 c.if-size-lt4.false, ← c.four-entries.ensures.0) c.if-size-entries.false, c.four-entries.ensures.0)

use native.Mathlib.Omega.{arith}
use native.Mathlib.Nat.{add-sub_cancel_left}
use borrow.Author.Tests.{le-leb, lt-leb}
use Rattle.paper.specs.Batch.{count_of, span_outside}
use Rattle.batch.proofs.Tests.{header_right}
use Rattle.batch.proofs.part.Goals as goal

pub returns-then-entries-number : goal.returns-then-entries-number
unfolding span_outside
returns-then-entries-number c =
    let accepted = c.in_ok-entries.ensures in
    (accepted.0, rw (le-leb (count_of c.args.batch.now) c.args.number (omega (arith, accepted.1))))

pub four-start-requires : goal.four-start-requires
four-start-requires c =
    omega (arith, (header_right _ c.in_ok-entries.ensures.0).entries, c.in_ok-entries.ensures.1)

pub four-requires : goal.four-requires
four-requires c =
    omega (arith, (header_right _ c.in_ok-entries.ensures.0).entries, c.in_ok-entries.ensures.1)

pub returns-then-start-entries : goal.returns-then-start-entries
unfolding span_outside
returns-then-start-entries c =
    let accepted = c.in_ok-entries.ensures in (
      accepted.0,
      rw (lt-leb (count_of c.args.batch.now) c.args.number (omega (arith, accepted.1)), ← accepted.1, ← c.four-start.ensures.0, ← c.four.ensures.0)
          c.if-start-entries.true,
    )

pub returns : goal.returns
unfolding span_outside
returns c =
    let accepted = c.in_ok-entries.ensures in (
      accepted.0,
      rw (lt-leb (count_of c.args.batch.now) c.args.number (omega (arith, accepted.1)), ← accepted.1, ← c.four-start.ensures.0, ← c.four.ensures.0)
          c.if-start-entries.false,
      rw (add-sub_cancel_left, c.four-start.ensures.0, c.four.ensures.0),
    )

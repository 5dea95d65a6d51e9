use native.Mathlib.Omega.{arith}
use Rattle.listing.proofs.Written.{wrote_over}
use Rattle.listing.proofs.list.Goals as goal

pub returns : goal.returns
returns c =
    let wrote = c.list_into.ensures.0 in
    (omega (arith, wrote.count), wrote_over _ wrote c.requires)

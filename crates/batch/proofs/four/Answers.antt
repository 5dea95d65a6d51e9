use native.Mathlib.Omega.{arith}
use native.Mathlib.Nat.{add_assoc}
use Rattle.batch.proofs.four.Goals as goal

pub returns : goal.returns
returns c =
    (rw (add_assoc c.args.at 2 1) (omega (arith, c.from_be_bytes.ensures)), c.from_be_bytes.type_inv)

-- No second answer meets the contract of a public function of this crate.
use Prim.Native.Nat.{ℕ, ◌*◌}
use mathlib.Core.Path.{◌≡◌, refl}
use native.Mathlib.Omega.{arith}
use Rattle.determined.specs.Determined.{Determined}
use Rattle.determined.proofs.Equations.{lent, unlent}
use Rattle.listing.proofs.count_listed
use Rattle.listing.proofs.list

third : (k a b : ℕ) → k ≡ 3 * a → k ≡ 3 * b → a ≡ b
third k a b p q = omega arith

pub count_listed_determined : Determined count_listed.Kinds.ps count_listed.Kinds.r count_listed.Reads.Pre count_listed.Reads.Learnt
count_listed_determined κs a pre z z' w w' p q = (third _ z z' p.0 q.0, refl)

pub list_determined : Determined list.Kinds.ps list.Kinds.r list.Reads.Pre list.Reads.Learnt
list_determined κs a pre z z' w w' p q =
    (third _ z z' p.0 q.0, unlent (lent p.1 q.1 refl))

-- No second answer meets the contract of a public function of this crate.
use mathlib.Core.Path.{refl}
use Rattle.determined.specs.Determined.{Determined}
use Rattle.determined.proofs.Equations.{same, lent, unlent}
use Rattle.image.proofs.sound
use Rattle.image.proofs.make_fresh
use Rattle.image.proofs.wake
use Rattle.image.proofs.take

pub sound_determined : Determined sound.Kinds.ps sound.Kinds.r sound.Reads.Pre sound.Reads.Learnt
sound_determined κs a pre z z' w w' p q = (same p q, refl)

pub make_fresh_determined : Determined make_fresh.Kinds.ps make_fresh.Kinds.r make_fresh.Reads.Pre make_fresh.Reads.Learnt
make_fresh_determined κs a pre z z' w w' p q = (refl, unlent (lent p q refl))

pub wake_determined : Determined wake.Kinds.ps wake.Kinds.r wake.Reads.Pre wake.Reads.Learnt
wake_determined κs a pre z z' w w' p q = (refl, unlent (lent p q refl))

pub take_determined : Determined take.Kinds.ps take.Kinds.r take.Reads.Pre take.Reads.Learnt
take_determined κs a pre z z' w w' p q = (refl, unlent (lent p q refl))

-- A view is lent what the inner functions ask for.
use Rattle.cabling.proofs.Passed.{accepted}
use Rattle.marks.specs.Lent.{Lent}
use Rattle.marks.specs.declared.View.{View}

pub lent : (v : View) → Lent v.cabling.upload.bytes.now v.image.now
lent v = record { table = accepted v.cabling.passes; fits = v.fits }

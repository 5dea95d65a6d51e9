use Rattle.image.proofs.Kept.{possible_in_table}
use Rattle.replay.proofs.Advancing.{first_may, advanced, at_rest}
use Rattle.replay.proofs.Handed.{lent_with}
use Rattle.replay.proofs.take_first.Goals as goal

pub take-requires-clause-in_table : goal.take-requires-clause-in_table
take-requires-clause-in_table c =
    let k = c.args.cabling.now in
    possible_in_table _ _ c.in-Some.first (first_may k.upload.bytes.now c.args.image.now (lent_with k c.args.image.now c.requires.fits) c.requires.is_sound c.in-Some.first c.in-Some.ensures)

pub returns-in-Some : goal.returns-in-Some
returns-in-Some c =
    let k = c.args.cabling.now in
    advanced k.upload.bytes.now c.args.image.now (lent_with k c.args.image.now c.requires.fits) c.requires.is_sound c.in-Some.first c.in-Some.ensures _ c.take.ensures

pub returns-in-None : goal.returns-in-None
returns-in-None c =
    let k = c.args.cabling.now in
    at_rest k.upload.bytes.now c.args.image.now (lent_with k c.args.image.now c.requires.fits) c.requires.is_sound c.in-None.ensures

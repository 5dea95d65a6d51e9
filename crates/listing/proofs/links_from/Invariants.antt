use Rattle.cabling.specs.Cables.{cables}
use Rattle.listing.specs.Links.{Noted}
use Rattle.listing.proofs.links_from.Given as goal

abbrev pub invariant-loop-i : goal.invariant-loop-i
invariant-loop-i l = Noted (cables l.cabling) l.x l.i l.links

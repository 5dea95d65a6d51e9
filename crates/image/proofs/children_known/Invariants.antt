use mathlib.Core.Path.{◌≡◌}
use Rattle.paper.specs.Image.{image_of, state_of}
use Rattle.cabling.specs.Cables.{cables}
use Rattle.image.specs.Parts.{sent_below}
use Rattle.image.proofs.children_known.Given as goal

abbrev pub invariant-loop-link : goal.invariant-loop-link
invariant-loop-link l =
    l.image ≡ image_of (cables l.cabling) (sent_below (cables l.cabling) (state_of (cables l.cabling) l.fn.image) l.x l.link)

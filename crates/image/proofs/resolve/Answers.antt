use Rattle.cabling.proofs.Passed.{accepted}
use Rattle.image.proofs.Effects.{resolved_made}
use Rattle.image.proofs.resolve.Goals as goal

pub returns : goal.returns
returns c =
    resolved_made _ (accepted c.args.cabling.now.passes).ends _ c.requires.image_is_sound c.args.d.link c.args.d.back _ _ _ _ _ _ c.requires.link_in_table c.direction_at-at.ensures.0 c.source-x.ensures.0 c.target-y.ensures.0 c.contending_byte.ensures c.contending_byte-2.ensures c.child_byte.ensures

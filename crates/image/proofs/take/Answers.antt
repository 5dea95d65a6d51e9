use Rattle.std.proofs.Common.{rules}
use Rattle.cabling.proofs.Passed.{accepted}
use Rattle.image.proofs.Effects.{root_made, child_made}
use Rattle.image.proofs.take.Goals as goal

pub returns-in-Node-BecomeRoot-default : goal.returns-in-Node-BecomeRoot-default
returns-in-Node-BecomeRoot-default c =
    let h = c.in-Node-BecomeRoot-default in
    let made = root_made _ (accepted c.args.cabling.now.passes).ends _ c.requires.image_is_sound h.x _ (search rules) c.root_byte.ensures in
    search rules

pub returns-in-Link-AddChild-default : goal.returns-in-Link-AddChild-default
returns-in-Link-AddChild-default c =
    let h = c.in-Link-AddChild-default in
    let made = child_made _ (accepted c.args.cabling.now.passes).ends _ c.requires.image_is_sound h.d.link h.d.back _ (search rules) c.direction_at.ensures.0 in
    search rules

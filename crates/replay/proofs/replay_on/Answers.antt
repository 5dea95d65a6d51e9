use Rattle.image.proofs.Filled.{fresh_woken}
use Rattle.cabling.specs.Cables.{cables}
use Rattle.std.proofs.Common.{◌∙◌}
use Rattle.replay.proofs.replay_on.Goals as goal

pub replay_into-replayed-requires : goal.replay_into-replayed-requires
replay_into-replayed-requires c =
    (c.wake.auto.image ∙ c.requires.0, c.wake.ensures ∙ fresh_woken (cables c.args.cabling.now) c.args.image.now c.requires.0 c.requires.1)

use Rattle.std.proofs.Common.{◌≡◌, arith}
use Rattle.paper.specs.Steps.{effect}
use Rattle.paper.specs.Image.{state_of}
use Rattle.cabling.specs.Cables.{cables}
use Rattle.cabling.proofs.Passed.{accepted}
use Rattle.image.specs.Parts.{sent_on}
use Rattle.image.proofs.Sent.{sent_more}
use Rattle.image.proofs.Effects.{stopped_made}
use Rattle.image.proofs.children_known.Goals as goal

-- The check finds this alone; with it the edit image/one_message_too_few falls where two terms differ.
pub loop-link-init : goal.loop-link-init
loop-link-init c =
    stopped_made _ (accepted c.args.cabling.now.passes).ends _ c.requires.image_is_sound c.args.x _ c.requires.node_in_table c.stopped_byte.ensures

pub loop-link-preserved : goal.loop-link-preserved
unfolding sent_on
loop-link-preserved c =
    let more = sent_more (cables c.args.cabling.now) (state_of (cables c.args.cabling.now) c.args.image.now) c.args.x c.loop-link.link (omega arith) in
    cc

pub returns : goal.returns
unfolding effect
returns c =
    let end : c.loop-link.link ≡ (cables c.args.cabling.now).links = omega arith in
    rw end at c.loop-link.invariant

use Rattle.std.proofs.Common.{rules, arith, refl, subst, ◌≡◌}
use Rattle.replay.proofs.Replaying.{Halfway, begins, goes_on, stops, ends}
use Rattle.replay.proofs.Handed.{lent_with}
use Rattle.replay.proofs.replay_into.Goals as goal

pub loop-i-init : goal.loop-i-init
loop-i-init c =
    let k = c.args.cabling.now in
    begins k.upload.bytes.now c.args.image.now c.args.image.now (lent_with k c.args.image.now c.requires.0) c.requires.1

pub act_at-requires-clause-image_is_sound : goal.act_at-requires-clause-image_is_sound
act_at-requires-clause-image_is_sound c =
    record { fits = c.loop-i.invariant.lent.fits; is_sound = c.loop-i.invariant.is_sound }

pub returns-in-Err : goal.returns-in-Err
returns-in-Err c =
    stops c.args.cabling.now.upload.bytes.now c.loop-i.image _ c.loop-i.i c.in-Err.refused c.loop-i.invariant (search rules) c.in-Err.ensures

pub loop-i-preserved : goal.loop-i-preserved
loop-i-preserved c =
    goes_on c.args.cabling.now.upload.bytes.now c.loop-i.image _ c.loop-i.i 0 c.loop-i.invariant (search rules) c.in_default.ensures refl

pub returns : goal.returns
returns c =
    let up = c.args.cabling.now.upload.bytes.now in
    let last : c.loop-i.i ≡ c.actions-a.result = omega (arith, c.loop-i-test.false, c.loop-i.auto.i-end) in
    ends up c.loop-i.image c.actions-a.result c.actions-a.ensures.0 (subst (Halfway up c.loop-i.image) last c.loop-i.invariant)

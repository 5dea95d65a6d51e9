use Rattle.std.proofs.Common.{ℕ, arith, subst, ◌≡◌}
use Rattle.replay.specs.Running.{RanTo}
use Rattle.replay.proofs.Running.{starts, runs_on, comes_to_rest, run_out}
use Rattle.replay.proofs.Handed.{lent_with}
use Rattle.replay.proofs.run_into.Goals as goal

pub loop-steps-init : goal.loop-steps-init
loop-steps-init c =
    let k = c.args.cabling.now in
    starts k.upload.bytes.now c.args.image.now _ (lent_with k c.args.image.now c.requires) c.make_fresh.ensures

pub take_first-requires : goal.take_first-requires
take_first-requires c = record { fits = c.loop-steps.invariant.lent.fits; is_sound = c.loop-steps.invariant.is_sound }

pub returns-then-not-take_first : goal.returns-then-not-take_first
returns-then-not-take_first c =
    comes_to_rest c.args.cabling.now.upload.bytes.now c.loop-steps.image c.loop-steps.steps c.loop-steps.invariant _ _ (omega (arith, c.longest_run-most.ensures.0, c.loop-steps-test.true)) c.take_first.ensures c.if-not-take_first.true

pub loop-steps-preserved : goal.loop-steps-preserved
loop-steps-preserved c =
    runs_on c.args.cabling.now.upload.bytes.now c.loop-steps.image c.loop-steps.steps c.loop-steps.invariant _ _ (omega (arith, c.longest_run-most.ensures.0, c.loop-steps-test.true)) c.take_first.ensures c.if-not-take_first.false

pub returns : goal.returns
returns c =
    let up = c.args.cabling.now.upload.bytes.now in
    let last : c.loop-steps.steps ≡ c.longest_run-most.result = omega (arith, c.loop-steps-test.false, c.loop-steps.auto.steps-end) in
    subst (λ (n : ℕ). RanTo up n c.loop-steps.image) last
    (run_out up c.loop-steps.image c.loop-steps.steps c.loop-steps.invariant (omega (arith, c.longest_run-most.ensures.0, c.loop-steps-test.false)))

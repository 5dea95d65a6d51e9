use Rattle.std.proofs.Common.{ℕ, subst}
use Rattle.image.proofs.Kept.{possible_in_table}
use Rattle.automaton.proofs.Taken.{tried_may}
use Rattle.replay.specs.Taken.{Taken}
use Rattle.replay.proofs.Acted.{act_taken, act_refused}
use Rattle.replay.proofs.Handed.{refused_on, lent_with}
use Rattle.replay.proofs.act.Goals as goal

pub returns-in_err-step : goal.returns-in_err-step
returns-in_err-step c =
    let a = c.args in
    let up = a.cabling.now.upload.bytes.now in
    subst (λ (n : ℕ). Taken up a.image.now a.kind a.x a.y n a.image.now) (refused_on _ _ c.from_residual.ensures.1)
    (act_refused up a.image.now a.kind a.x a.y (lent_with a.cabling.now a.image.now c.requires.fits) c.requires.is_sound _ c.in_err-step.ensures)

pub take-requires-clause-in_table : goal.take-requires-clause-in_table
take-requires-clause-in_table c = possible_in_table _ _ c.in_ok-step.step (tried_may c.in_ok-step.ensures)

pub returns : goal.returns
returns c =
    let a = c.args in
    act_taken a.cabling.now.upload.bytes.now a.image.now a.kind a.x a.y (lent_with a.cabling.now a.image.now c.requires.fits) c.requires.is_sound _ c.in_ok-step.step c.in_ok-step.ensures c.take.ensures

use Rattle.std.proofs.Common.{ℕ, List, sym, ap, ◌∙◌}
use Rattle.paper.specs.Table.{table_of}
use Rattle.paper.specs.Image.{image_of}
use Rattle.paper.specs.Refusals.{accepted}
use Rattle.paper.specs.Runner.{Ran, runner}
use Rattle.paper.specs.Calls.{reported}
use Rattle.cabling.specs.Cables.{cables}
use Rattle.replay.proofs.Checked.{table_good, table_bad}
use Rattle.replay.proofs.Handed.{by_table, by_image, fits_length, bytes_are, fits_is}
use Rattle.replay.proofs.Running.{run_table, run_table_left, run_length, run_length_left, run_done, run_done_left}
use Rattle.replay.proofs.try_run.Goals as goal

pub returns-in_err-cabling-clause-value : goal.returns-in_err-cabling-clause-value
returns-in_err-cabling-clause-value c =
    let a = c.args in
    let told = c.in_err-cabling.ensures.told in
    by_table a.upload.now _ _ c.from_residual.ensures.1 told ∙ sym (run_table a.upload.now a.image.now (table_bad a.upload.now _ told))

pub returns-in_err-cabling-clause-image_after : goal.returns-in_err-cabling-clause-image_after
returns-in_err-cabling-clause-image_after c =
    let a = c.args in
    sym (run_table_left a.upload.now a.image.now (table_bad a.upload.now _ c.in_err-cabling.ensures.told))

pub returns-in_err-fitting-clause-value : goal.returns-in_err-fitting-clause-value
returns-in_err-fitting-clause-value c =
    let a = c.args in
    let cabled = c.in_ok-cabling.ensures in
    by_image _ _ c.from_residual-in_err-fitting.ensures.1 c.in_err-fitting.ensures.err ∙ sym (run_length a.upload.now a.image.now (table_good a.upload.now cabled.told) (fits_is c.in_ok-cabling.cabling cabled.same _ a.image.now c.in_err-fitting.ensures.fits))

pub returns-in_err-fitting-clause-image_after : goal.returns-in_err-fitting-clause-image_after
returns-in_err-fitting-clause-image_after c =
    let a = c.args in
    let cabled = c.in_ok-cabling.ensures in
    sym (run_length_left a.upload.now a.image.now (table_good a.upload.now cabled.told) (fits_is c.in_ok-cabling.cabling cabled.same _ a.image.now c.in_err-fitting.ensures.fits))

pub run_into-steps-requires : goal.run_into-steps-requires
run_into-steps-requires c = fits_length c.in_ok-cabling.cabling c.args.image.now c.in_ok-fitting.ensures.fits

pub returns-clause-value : goal.returns-clause-value
returns-clause-value c =
    let a = c.args in
    let k = c.in_ok-cabling.cabling in
    let cabled = c.in_ok-cabling.ensures in
    let ran = c.run_into-steps.ensures in
    c.reporting.ensures
    ∙ ap (λ (r : Ran). reported accepted r.steps (cables k) r.state) (sym ran.is)
    ∙ ap (λ (l : List ℕ). reported accepted (runner (table_of l)).steps (table_of l) (runner (table_of l)).state) (bytes_are k cabled.same)
    ∙ sym (run_done a.upload.now a.image.now (table_good a.upload.now cabled.told) (fits_is k cabled.same _ a.image.now c.in_ok-fitting.ensures.fits))

pub returns-clause-image_after : goal.returns-clause-image_after
returns-clause-image_after c =
    let a = c.args in
    let k = c.in_ok-cabling.cabling in
    let cabled = c.in_ok-cabling.ensures in
    c.run_into-steps.ensures.left
    ∙ ap (λ (l : List ℕ). image_of (table_of l) (runner (table_of l)).state) (bytes_are k cabled.same)
    ∙ sym (run_done_left a.upload.now a.image.now (table_good a.upload.now cabled.told) (fits_is k cabled.same _ a.image.now c.in_ok-fitting.ensures.fits))

use Rattle.std.proofs.Common.{ℕ, List, sym, ap, ◌∙◌}
use Rattle.paper.specs.Table.{table_of}
use Rattle.paper.specs.State.{fresh}
use Rattle.paper.specs.Image.{image_of}
use Rattle.paper.specs.Refusals.{accepted}
use Rattle.paper.specs.Calls.{reported}
use Rattle.cabling.specs.Cables.{cables}
use Rattle.image.proofs.Kept.{fresh_holds}
use Rattle.replay.proofs.Answers.{fresh_table, fresh_table_left, fresh_length, fresh_length_left, fresh_done, fresh_done_left}
use Rattle.replay.proofs.Checked.{table_good, table_bad}
use Rattle.replay.proofs.Handed.{by_table, by_image, lent_with, fits_length, bytes_are, fits_is}
use Rattle.replay.proofs.try_fresh.Goals as goal

pub returns-in_err-cabling-clause-value : goal.returns-in_err-cabling-clause-value
returns-in_err-cabling-clause-value c =
    let a = c.args in
    let told = c.in_err-cabling.ensures.told in
    by_table a.upload.now _ _ c.from_residual.ensures.1 told ∙ sym (fresh_table a.upload.now a.image.now (table_bad a.upload.now _ told))

pub returns-in_err-cabling-clause-image_after : goal.returns-in_err-cabling-clause-image_after
returns-in_err-cabling-clause-image_after c =
    let a = c.args in
    sym (fresh_table_left a.upload.now a.image.now (table_bad a.upload.now _ c.in_err-cabling.ensures.told))

pub returns-in_err-fitting-clause-value : goal.returns-in_err-fitting-clause-value
returns-in_err-fitting-clause-value c =
    let a = c.args in
    let cabled = c.in_ok-cabling.ensures in
    by_image _ _ c.from_residual-in_err-fitting.ensures.1 c.in_err-fitting.ensures.err ∙ sym (fresh_length a.upload.now a.image.now (table_good a.upload.now cabled.told) (fits_is c.in_ok-cabling.cabling cabled.same _ a.image.now c.in_err-fitting.ensures.fits))

pub returns-in_err-fitting-clause-image_after : goal.returns-in_err-fitting-clause-image_after
returns-in_err-fitting-clause-image_after c =
    let a = c.args in
    let cabled = c.in_ok-cabling.ensures in
    sym (fresh_length_left a.upload.now a.image.now (table_good a.upload.now cabled.told) (fits_is c.in_ok-cabling.cabling cabled.same _ a.image.now c.in_err-fitting.ensures.fits))

pub returns-clause-value : goal.returns-clause-value
returns-clause-value c =
    let a = c.args in
    let k = c.in_ok-cabling.cabling in
    let cabled = c.in_ok-cabling.ensures in
    let fitted = c.in_ok-fitting.ensures.fits in
    let holds = fresh_holds k.upload.bytes.now a.image.now _ (lent_with k a.image.now (fits_length k a.image.now fitted)) c.make_fresh.ensures in
    c.reporting.ensures
    ∙ ap (reported accepted 0 (cables k)) holds.shows
    ∙ ap (λ (l : List ℕ). reported accepted 0 (table_of l) (fresh (table_of l))) (bytes_are k cabled.same)
    ∙ sym (fresh_done a.upload.now a.image.now (table_good a.upload.now cabled.told) (fits_is k cabled.same _ a.image.now fitted))

pub returns-clause-image_after : goal.returns-clause-image_after
returns-clause-image_after c =
    let a = c.args in
    let k = c.in_ok-cabling.cabling in
    let cabled = c.in_ok-cabling.ensures in
    c.make_fresh.ensures
    ∙ ap (λ (l : List ℕ). image_of (table_of l) (fresh (table_of l))) (bytes_are k cabled.same)
    ∙ sym (fresh_done_left a.upload.now a.image.now (table_good a.upload.now cabled.told) (fits_is k cabled.same _ a.image.now c.in_ok-fitting.ensures.fits))

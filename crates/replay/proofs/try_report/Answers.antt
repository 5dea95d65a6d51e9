use Rattle.std.proofs.Common.{sym, ◌∙◌}
use Rattle.paper.specs.Refusals.{accepted}
use Rattle.replay.proofs.Answers.{report_table, report_image, report_done}
use Rattle.replay.proofs.Checked.{table_good, table_bad}
use Rattle.replay.proofs.Handed.{by_table, by_image, good_is, shows}
use Rattle.replay.proofs.try_report.Goals as goal

pub returns-in_err-cabling : goal.returns-in_err-cabling
returns-in_err-cabling c =
    let a = c.args in
    let told = c.in_err-cabling.ensures.told in
    by_table a.upload.now _ _ c.from_residual.ensures.1 told ∙ sym (report_table a.upload.now a.image.now (table_bad a.upload.now _ told))

pub returns-in_err-view : goal.returns-in_err-view
returns-in_err-view c =
    let a = c.args in
    let cabled = c.in_ok-cabling.ensures in
    by_image _ _ c.from_residual-in_err-view.ensures.1 c.in_err-view.ensures.err ∙ sym (report_image a.upload.now a.image.now (table_good a.upload.now cabled.told) (good_is c.in_ok-cabling.cabling cabled.same _ a.image.now c.in_err-view.ensures.sound))

pub returns : goal.returns
returns c =
    let a = c.args in
    let cabled = c.in_ok-cabling.ensures in
    let viewed = c.in_ok-view.ensures in
    c.reporting.ensures
    ∙ shows c.in_ok-cabling.cabling cabled.same c.in_ok-view.view viewed.view accepted 0
    ∙ sym (report_done a.upload.now a.image.now (table_good a.upload.now cabled.told) (good_is c.in_ok-cabling.cabling cabled.same _ a.image.now viewed.sound))

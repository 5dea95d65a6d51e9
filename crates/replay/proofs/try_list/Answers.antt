use Rattle.std.proofs.Common.{ℕ, List, length, ltb, ltb-false, arith, sym, ap, ◌∙◌}
use Rattle.paper.specs.Refusals.{accepted}
use Rattle.paper.specs.Calls.{over}
use Rattle.replay.proofs.Checked.{table_good, table_bad}
use Rattle.replay.proofs.Handed.{by_table, by_image, lent_with, good_is, shows, lists}
use Rattle.replay.proofs.Listed.{list_table, list_table_left, list_image, list_image_left, list_room, list_room_left, list_done, list_done_left, list_most}
use Rattle.replay.proofs.try_list.Goals as goal

pub returns-in_err-cabling-clause-value : goal.returns-in_err-cabling-clause-value
returns-in_err-cabling-clause-value c =
    let a = c.args in
    let told = c.in_err-cabling.ensures.told in
    by_table a.upload.now _ _ c.from_residual.ensures.1 told ∙ sym (list_table a.upload.now a.image.now a.buffer.now (table_bad a.upload.now _ told))

pub returns-in_err-cabling-clause-buffer_after : goal.returns-in_err-cabling-clause-buffer_after
returns-in_err-cabling-clause-buffer_after c =
    let a = c.args in
    sym (list_table_left a.upload.now a.image.now a.buffer.now (table_bad a.upload.now _ c.in_err-cabling.ensures.told))

pub returns-in_err-view-clause-value : goal.returns-in_err-view-clause-value
returns-in_err-view-clause-value c =
    let a = c.args in
    let cabled = c.in_ok-cabling.ensures in
    by_image _ _ c.from_residual-in_err-view.ensures.1 c.in_err-view.ensures.err ∙ sym (list_image a.upload.now a.image.now a.buffer.now (table_good a.upload.now cabled.told) (good_is c.in_ok-cabling.cabling cabled.same _ a.image.now c.in_err-view.ensures.sound))

pub returns-in_err-view-clause-buffer_after : goal.returns-in_err-view-clause-buffer_after
returns-in_err-view-clause-buffer_after c =
    let a = c.args in
    let cabled = c.in_ok-cabling.ensures in
    sym (list_image_left a.upload.now a.image.now a.buffer.now (table_good a.upload.now cabled.told) (good_is c.in_ok-cabling.cabling cabled.same _ a.image.now c.in_err-view.ensures.sound))

pub returns-then-lacks_room-clause-value : goal.returns-then-lacks_room-clause-value
returns-then-lacks_room-clause-value c =
    let a = c.args in
    let k = c.in_ok-cabling.cabling in
    let cabled = c.in_ok-cabling.ensures in
    let seen = c.in_ok-view.ensures in
    let lacks = c.if-lacks_room.ensures ∙ ap (λ (l : List ℕ). ltb (length a.buffer.now) (length l)) (lists k cabled.same c.in_ok-view.view seen.view) in
    sym (list_room a.upload.now a.image.now a.buffer.now (table_good a.upload.now cabled.told) (good_is k cabled.same _ a.image.now seen.sound) (sym lacks))

pub returns-then-lacks_room-clause-buffer_after : goal.returns-then-lacks_room-clause-buffer_after
returns-then-lacks_room-clause-buffer_after c =
    let a = c.args in
    let k = c.in_ok-cabling.cabling in
    let cabled = c.in_ok-cabling.ensures in
    let seen = c.in_ok-view.ensures in
    let lacks = c.if-lacks_room.ensures ∙ ap (λ (l : List ℕ). ltb (length a.buffer.now) (length l)) (lists k cabled.same c.in_ok-view.view seen.view) in
    sym (list_room_left a.upload.now a.image.now a.buffer.now (table_good a.upload.now cabled.told) (good_is k cabled.same _ a.image.now seen.sound) (sym lacks))

pub list-count-requires : goal.list-count-requires
list-count-requires c = ltb-false _ _ (sym c.if-lacks_room.ensures)

pub overflow_cast-count : goal.overflow_cast-count
overflow_cast-count c =
    let v = c.in_ok-view.view in
    let known = (lent_with v.cabling v.image.now v.fits).table in
    record { fits = omega (arith, list_most v.cabling.upload.bytes.now v.image.now known, known.nodes_fit, known.links_fit, c.list-count.ensures.0) }

pub returns-clause-value : goal.returns-clause-value
returns-clause-value c =
    let a = c.args in
    let k = c.in_ok-cabling.cabling in
    let cabled = c.in_ok-cabling.ensures in
    let v = c.in_ok-view.view in
    let seen = c.in_ok-view.ensures in
    let same = lists k cabled.same v seen.view in
    let fits = c.if-lacks_room.ensures ∙ ap (λ (l : List ℕ). ltb (length a.buffer.now) (length l)) same in
    c.reporting.ensures
    ∙ shows k cabled.same v seen.view accepted c.list-count.result
    ∙ sym (list_done a.upload.now a.image.now a.buffer.now (table_good a.upload.now cabled.told) (good_is k cabled.same _ a.image.now seen.sound) (sym fits) c.list-count.result (sym (ap length same) ∙ c.list-count.ensures.0))

pub returns-clause-buffer_after : goal.returns-clause-buffer_after
returns-clause-buffer_after c =
    let a = c.args in
    let k = c.in_ok-cabling.cabling in
    let cabled = c.in_ok-cabling.ensures in
    let seen = c.in_ok-view.ensures in
    let same = lists k cabled.same c.in_ok-view.view seen.view in
    let fits = c.if-lacks_room.ensures ∙ ap (λ (l : List ℕ). ltb (length a.buffer.now) (length l)) same in
    c.list-count.ensures.1
    ∙ ap (λ (l : List ℕ). over l a.buffer.now) same
    ∙ sym (list_done_left a.upload.now a.image.now a.buffer.now (table_good a.upload.now cabled.told) (good_is k cabled.same _ a.image.now seen.sound) (sym fits))

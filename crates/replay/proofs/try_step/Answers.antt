use Rattle.std.proofs.Common.{ℕ, List, Bor, eqb, ◌≡◌, refl, sym, ap, subst, ◌∙◌}
use Rattle.counting.specs.Count.{bit}
use Rattle.paper.specs.Table.{table_of}
use Rattle.paper.specs.Image.{state_of}
use Rattle.paper.specs.Refusals.{accepted}
use Rattle.paper.specs.Calls.{reported}
use Rattle.cabling.specs.declared.Cabling.{Cabling}
use Rattle.automaton.specs.declared.Refused.{Refused}
use Rattle.automaton.specs.declared.Refused.TheVariants.{Unread, NoLink, Impossible}
use Rattle.automaton.specs.Tried.{refused_number}
use Rattle.replay.specs.Taken.{Taken}
use Rattle.replay.proofs.Stepped.{step_table, step_table_left, image_of_step, step_image_left, step_done, step_done_left}
use Rattle.replay.proofs.Checked.{table_good, table_bad}
use Rattle.replay.proofs.Handed.{by_table, by_image, good_fits, good_is, bytes_are}
use Rattle.replay.proofs.try_step.Goals as goal

pub returns-in_err-cabling-clause-value : goal.returns-in_err-cabling-clause-value
returns-in_err-cabling-clause-value c =
    let a = c.args in
    let told = c.in_err-cabling.ensures.told in
    by_table a.upload.now _ _ c.from_residual.ensures.1 told ∙ sym (step_table a.upload.now a.image.now a.kind a.x a.y (table_bad a.upload.now _ told))

pub returns-in_err-cabling-clause-image_after : goal.returns-in_err-cabling-clause-image_after
returns-in_err-cabling-clause-image_after c =
    let a = c.args in
    sym (step_table_left a.upload.now a.image.now a.kind a.x a.y (table_bad a.upload.now _ c.in_err-cabling.ensures.told))

pub returns-in_err-sound_view-clause-value : goal.returns-in_err-sound_view-clause-value
returns-in_err-sound_view-clause-value c =
    let a = c.args in
    let cabled = c.in_ok-cabling.ensures in
    by_image _ _ c.from_residual-in_err-sound_view.ensures.1 c.in_err-sound_view.ensures.err ∙ sym (image_of_step a.upload.now a.image.now a.kind a.x a.y (table_good a.upload.now cabled.told) (good_is c.in_ok-cabling.cabling cabled.same _ a.image.now c.in_err-sound_view.ensures.sound))

pub returns-in_err-sound_view-clause-image_after : goal.returns-in_err-sound_view-clause-image_after
returns-in_err-sound_view-clause-image_after c =
    let a = c.args in
    let cabled = c.in_ok-cabling.ensures in
    sym (step_image_left a.upload.now a.image.now a.kind a.x a.y (table_good a.upload.now cabled.told) (good_is c.in_ok-cabling.cabling cabled.same _ a.image.now c.in_err-sound_view.ensures.sound))

pub act-taken-requires : goal.act-taken-requires
act-taken-requires c = good_fits c.in_ok-cabling.cabling c.args.image.now c.in_ok-sound_view.ensures.sound

-- what trying the action came to, of the upload that was lent
taken : {u : Bor (List ℕ)} (k : Cabling) → k.upload.bytes ≡ u → {image after : List ℕ} {kind x y number : ℕ} → Taken k.upload.bytes.now image kind x y number after → Taken u.now image kind x y number after
taken k of {image} {after} {kind} {x} {y} {number} w = subst (λ (l : List ℕ). Taken l image kind x y number after) (bytes_are k of) w

pub returns-in-Ok-clause-value : goal.returns-in-Ok-clause-value
returns-in-Ok-clause-value c =
    let a = c.args in
    let k = c.in_ok-cabling.cabling in
    let cabled = c.in_ok-cabling.ensures in
    let test = good_is k cabled.same _ a.image.now c.in_ok-sound_view.ensures.sound in
    c.reporting.ensures
    ∙ ap (λ (l : List ℕ). reported accepted 1 (table_of l) (state_of (table_of l) c.act-taken.new.image)) (bytes_are k cabled.same)
    ∙ step_done a.upload.now a.image.now a.kind a.x a.y (table_good a.upload.now cabled.told) test 0 c.act-taken.new.image (taken k cabled.same c.in-Ok.ensures)

pub returns-in-Ok-clause-image_after : goal.returns-in-Ok-clause-image_after
returns-in-Ok-clause-image_after c =
    let a = c.args in
    let k = c.in_ok-cabling.cabling in
    let cabled = c.in_ok-cabling.ensures in
    let test = good_is k cabled.same _ a.image.now c.in_ok-sound_view.ensures.sound in
    step_done_left a.upload.now a.image.now a.kind a.x a.y (table_good a.upload.now cabled.told) test 0 c.act-taken.new.image (taken k cabled.same c.in-Ok.ensures)

-- a refused action is not counted
uncounted : (r : Refused) → 0 ≡ bit (eqb (refused_number r) 0)
uncounted Unread = refl
uncounted NoLink = refl
uncounted (Impossible x) = refl

pub returns-in-Err-clause-value : goal.returns-in-Err-clause-value
returns-in-Err-clause-value c =
    let a = c.args in
    let k = c.in_ok-cabling.cabling in
    let cabled = c.in_ok-cabling.ensures in
    let r = c.in-Err.refused in
    let test = good_is k cabled.same _ a.image.now c.in_ok-sound_view.ensures.sound in
    c.reporting-in-Err.ensures
    ∙ (λ j.
    let t = table_of (bytes_are k cabled.same j) in
    reported (record { number = c.from.ensures j; place = 0 }) (uncounted r j) t (state_of t c.act-taken.new.image))
    ∙ step_done a.upload.now a.image.now a.kind a.x a.y (table_good a.upload.now cabled.told) test (refused_number r) c.act-taken.new.image (taken k cabled.same c.in-Err.ensures)

pub returns-in-Err-clause-image_after : goal.returns-in-Err-clause-image_after
returns-in-Err-clause-image_after c =
    let a = c.args in
    let k = c.in_ok-cabling.cabling in
    let cabled = c.in_ok-cabling.ensures in
    let test = good_is k cabled.same _ a.image.now c.in_ok-sound_view.ensures.sound in
    step_done_left a.upload.now a.image.now a.kind a.x a.y (table_good a.upload.now cabled.told) test (refused_number c.in-Err.refused) c.act-taken.new.image (taken k cabled.same c.in-Err.ensures)

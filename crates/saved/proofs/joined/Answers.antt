use Rattle.std.proofs.Common.{◌+◌, ◌≤◌, get_or, arith, length, refl}
use Rattle.saved.proofs.Placing.{past, next_text}
use Rattle.saved.proofs.joined.Goals as goal

pub returns-then-room-text : goal.returns-then-room-text
returns-then-room-text c =
    let next = next_text c.args.texts.now c.loop-text.text-index c.loop-text-test.true in
    (omega (arith, next.0, next.1), refl)

pub slice_bounds-copy_from_slice-end : goal.slice_bounds-copy_from_slice-end
slice_bounds-copy_from_slice-end c =
    let next = next_text c.args.texts.now c.loop-text-2.text-index c.loop-text-2-test.true in
    let inside : c.loop-text-2.at + length (get_or c.args.texts.now c.loop-text-2.text-index past).now ≤ length c.loop-text-2.out = omega (arith, next.0, next.1, c.loop-text-2.auto.out) in
    inside

use Rattle.std.proofs.Common.{◌≡◌, ◌+◌, ◌≤◌, length, take}
use Rattle.paper.specs.Calls.{over}
use Rattle.saved.specs.Placed.{text_of}
use Rattle.saved.proofs.joined.Given as goal

abbrev pub invariant-loop-text : goal.invariant-loop-text
invariant-loop-text l = l.room + length (text_of (take l.text-index l.texts)) ≡ length l.out

abbrev pub invariant-loop-text-2 : goal.invariant-loop-text-2
invariant-loop-text-2 l =
    (length (text_of l.texts) ≤ length l.initial.out) × (l.at ≡ length (text_of (take l.text-index l.texts))) × (l.out ≡ over (text_of (take l.text-index l.texts)) l.initial.out)

use Rattle.std.proofs.Common.{take, flat_map}
use Rattle.std.specs.Fmt.{HasWritten, IsPlainFormatter}
use Rattle.cases.specs.Shown.{two_digits}
use Rattle.cases.proofs.HexDisplay.fmt.Given as goal

-- the bytes before this one have been written
abbrev pub invariant-loop-byte : goal.invariant-loop-byte
invariant-loop-byte g l =
    IsPlainFormatter l.initial.f → HasWritten g.W.Write.write_str_gives l.initial.f (flat_map two_digits (take l.byte-index l.byte-items)) l.f

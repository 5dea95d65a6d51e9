use Rattle.std.proofs.Common.{rules, ◌≡◌, ◌<◌, get_or, false, Some, refl}
use Rattle.std.proofs.Output.{has_written_append, has_written_of_eq}
use Rattle.std.proofs.lemmas.Fmt.{hex_byte}
use Rattle.std.specs.Fmt.{styled_digits_output}
use Rattle.cases.specs.Shown.{two_digits}
use Rattle.cases.proofs.Shown.{flat_map-take}
use Rattle.cases.proofs.HexDisplay.fmt.Goals as goal

pub loop-byte-preserved : goal.loop-byte-preserved
loop-byte-preserved g c = λ p.
    let before = c.loop-byte.invariant p in
    let bytes = c.args.self.now.0.now in
    let byte = get_or bytes c.loop-byte.byte-index 0 in
    let small : byte < 256 = search rules in
    let text : styled_digits_output c.in_radix.result c.laid_out.result ≡ Some (two_digits byte) = rw (c.laid_out.ensures, c.in_radix.ensures, hex_byte false byte small) in
    let wrote = rw text at c.in_ok-write.ensures.writes in
    has_written_of_eq g.W.Write.write_str_gives c.args.f.now _ _ c.write.new.self (flat_map-take bytes c.loop-byte.byte-index c.loop-byte-test.true) (has_written_append g.W.Write.write_str_gives c.args.f.now _ c.loop-byte.f _ c.write.new.self before (wrote before.plain refl))

-- An accepted header and a span inside, from their tests, and back.
use Prim.Native.Nat.{ℕ, ◌+◌}
use mathlib.Core.Bool.{false}
use mathlib.Core.Path.{◌≡◌}
use mathlib.Core.List.{List}
use native.Mathlib.Omega.{arith}
use borrow.Author.Tests.{ltb-false, leb-false, eqb-false}
use Rattle.std.proofs.lemmas.Bool.{or_parts}
use lib.Dec.{ltb, leb, eqb}
use lib.ListN.{length}
use Rattle.paper.specs.Batch.{count_of, header_end, offset_of, length_of, header_wrong, span_outside}
use Rattle.batch.specs.Inside.{Header, Inside}

pub header_right : (batch : List ℕ) → header_wrong batch ≡ false → Header batch
unfolding header_wrong
header_right batch e =
    let past = or_parts _ (ltb (length batch) (header_end batch)) e in
    let more = or_parts _ (ltb 64 (count_of batch)) past.0 in
    let none = or_parts _ (eqb (count_of batch) 0) more.0 in
    let long = or_parts (ltb (length batch) 4) (ltb 65536 (length batch)) none.0 in
    let some = eqb-false (count_of batch) 0 none.1 in
    record {
      whole = ltb-false _ _ long.0;
      fits = ltb-false _ _ long.1;
      some = omega arith;
      most = ltb-false _ _ more.1;
      entries = ltb-false _ _ past.1;
    }

pub span_inside : (batch : List ℕ) (number : ℕ) → span_outside batch number ≡ false → Inside batch number
unfolding span_outside
span_inside batch number e =
    let past = or_parts _ (ltb (length batch) (offset_of batch number + length_of batch number)) e in
    let before = or_parts (leb (count_of batch) number) (ltb (offset_of batch number) (header_end batch)) past.0 in
    record {
      named = leb-false _ _ before.0;
      behind = ltb-false _ _ before.1;
      ends = ltb-false _ _ past.1;
    }

-- The six numbers of an answer are its line as that of entry 0, but for the first byte.
use Prim.Native.Nat.{ℕ, ◌+◌, ◌-◌, ◌≤◌}
use mathlib.Core.Path.{◌≡◌, refl, ap, ◌∙◌}
use mathlib.Core.List.{List, [], ◌∷◌, ◌++◌, append-nil}
use native.Mathlib.Omega.{arith}
use borrow.Author.Tests.{le-ltb}
use lib.ListN.{length, take, drop}
use lib.Seq.{take_at}
use Rattle.paper.specs.declared.Answer.{Answer}
use Rattle.paper.specs.Lines.{digits, line_of, lines_from}
use Rattle.lines.specs.Output.{Output, text_answer, text_buffer}
use Rattle.lines.proofs.Ordered.{line_most}
use Rattle.saved.specs.Saved.{numbers}

pub entry_line : (a : Answer) → line_of 0 a ≡ 48 ∷ numbers a
unfolding line_of digits
entry_line a = refl

-- the numbers behind the first byte of a line that is written into an array
pub record Written (a : Answer) (buffer : List ℕ) (n : ℕ) : Type 0 where
  pub text : take (n - 1) (drop 1 buffer) ≡ numbers a
  pub some : 1 ≤ n
  pub most : n ≤ 64

pub written : (a done : Answer) (before after : List ℕ) → Output (lines_from 0 (a ∷ [])) before after done → length before ≡ 64 → Written a after done.steps
unfolding text_answer text_buffer lines_from
written a done before after out h =
    let all : line_of 0 a ++ [] ≡ 48 ∷ numbers a = append-nil (line_of 0 a) ∙ entry_line a in
    let size : length (line_of 0 a ++ []) ≡ 1 + length (numbers a) = ap length all ∙ omega arith in
    let most : length (line_of 0 a ++ []) ≤ 64 = omega (arith, ap length (append-nil (line_of 0 a)), line_most 0 a) in
    let room = le-ltb (length before) (length (line_of 0 a ++ [])) (omega (arith, most)) in
    let steps : done.steps ≡ 1 + length (numbers a) = ap (λ (d : Answer). d.steps) out.answered ∙ rw room size in
    let left : after ≡ (48 ∷ numbers a) ++ drop (length (line_of 0 a ++ [])) before = out.left ∙ rw (room, all) in
    record {
      text = rw left (take_at (numbers a) (drop (length (line_of 0 a ++ [])) before) (done.steps - 1) (omega arith));
      some = omega arith;
      most = omega arith;
    }

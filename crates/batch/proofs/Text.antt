-- What the program prints of a batch: one line where the header is refused, else the lines of the c answers.
use Prim.Native.Nat.{ℕ, ◌≤◌}
use mathlib.Core.Bool.{true, false}
use mathlib.Core.Path.{◌≡◌}
use mathlib.Core.List.{List}
use native.Mathlib.Omega.{arith}
use lib.ListN.{take}
use lib.Seq.{take_all}
use Rattle.counting.specs.Count.{list_of}
use Rattle.paper.specs.declared.Answer.{Answer}
use Rattle.paper.specs.Batch.{count_of, header_wrong, entry_answer, answers_of}
use Rattle.paper.specs.Lines.{refused_line, lines_from, text_of, lines_answer, lines_buffer}
use Rattle.lines.specs.Output.{text_answer, text_buffer, Output}
use Rattle.counting.proofs.Lists.{length_list_of}

-- the text, answered and left in the buffer as document 01 says
abbrev pub Printed : List ℕ → List ℕ → List ℕ → Answer → Type 0
Printed batch before after answer = (answer ≡ lines_answer batch before) × (after ≡ lines_buffer batch before)

pub printed : (batch before : List ℕ) {after text : List ℕ} {answer : Answer} → text_of batch ≡ text → Output text before after answer → Printed batch before after answer
unfolding lines_answer lines_buffer text_answer text_buffer
printed batch before e o = (rw e o.answered, rw e o.left)

pub text_refused : (batch : List ℕ) → header_wrong batch ≡ true → text_of batch ≡ refused_line
unfolding text_of
text_refused batch e = rw e

-- no more than 64 answers, as many as are printed
pub all_shown : (n : ℕ) (f : ℕ → Answer) → n ≤ 64 → take 64 (list_of n f) ≡ list_of n f
all_shown n f h = take_all 64 (list_of n f) (omega (arith, length_list_of n f))

pub text_lines : (batch : List ℕ) {n : ℕ} → header_wrong batch ≡ false → n ≡ count_of batch → text_of batch ≡ lines_from 0 (list_of n (entry_answer batch))
unfolding text_of answers_of
text_lines batch {n} e c = rw (e, ← c)

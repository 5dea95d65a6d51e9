-- The printed lines, as bytes: entry number, refusal, place, steps, outcome, root, waiting; decimal, one space between, a newline after.
use Rattle.std.specs.Prelude.{ℕ, zero, suc, ◌+◌, ◌/◌, ◌%◌, cond, List, [], ◌∷◌, ◌++◌, length, ltb}
use Rattle.paper.specs.declared.Answer.{Answer}
use Rattle.paper.specs.Refusals.{Refusal, first, room_refusal}
use Rattle.paper.specs.Calls.{over, left}
use Rattle.paper.specs.Batch.{header_wrong, answers_of}

-- the digit of a number below ten
abbrev pub digit : ℕ → ℕ
digit k = 48 + k

-- a number in decimal, of at most so many digits and one
unfoldable pub digits : ℕ → ℕ → List ℕ
digits zero k = digit k ∷ []
digits (suc more) k = cond (ltb k 10) (digit k ∷ []) (digits more (k / 10) ++ (digit (k % 10) ∷ []))

-- a number below 100,000 in decimal
abbrev pub decimal : ℕ → List ℕ
decimal k = digits 4 k

abbrev pub space : ℕ
space = 32

abbrev pub newline : ℕ
newline = 10

-- a line: the entry's number and the six numbers of its answer
unfoldable pub line_of : ℕ → Answer → List ℕ
line_of i a =
    decimal i
    ++ (space ∷ decimal a.refusal)
    ++ (space ∷ decimal a.place)
    ++ (space ∷ decimal a.steps)
    ++ (space ∷ decimal a.outcome)
    ++ (space ∷ decimal a.root)
    ++ (space ∷ decimal a.waiting)
    ++ (newline ∷ [])

-- a line for each answer, numbered from i on
unfoldable pub lines_from : ℕ → List Answer → List ℕ
lines_from i [] = []
lines_from i (a ∷ rest) = line_of i a ++ lines_from (suc i) rest

-- `refused 1` and a newline
abbrev pub refused_line : List ℕ
refused_line = 114 ∷ 101 ∷ 102 ∷ 117 ∷ 115 ∷ 101 ∷ 100 ∷ 32 ∷ 49 ∷ 10 ∷ []

-- what the program prints of a batch
unfoldable pub text_of : List ℕ → List ℕ
text_of batch = cond (header_wrong batch) refused_line (lines_from 0 (answers_of batch))

-- lines: the text, into a lent buffer; steps is its length in bytes
abbrev pub lines_refusal : List ℕ → List ℕ → Refusal
lines_refusal batch buffer = first (room_refusal (length (text_of batch)) buffer ∷ [])

unfoldable pub lines_answer : List ℕ → List ℕ → Answer
lines_answer batch buffer =
    let r = lines_refusal batch buffer in
    record {
      refusal = r.number;
      place = r.place;
      steps = length (left r (text_of batch) []);
      outcome = 0;
      root = 255;
      waiting = 0;
    }

unfoldable pub lines_buffer : List ℕ → List ℕ → List ℕ
lines_buffer batch buffer = left (lines_refusal batch buffer) (over (text_of batch) buffer) buffer

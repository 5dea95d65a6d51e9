-- The batch: a count c, c entries of offset and length, and the parts of it that they name.
use Rattle.std.specs.Prelude.{ℕ, ◌+◌, ◌*◌, Bool, ◌||◌, List, length, take, drop, ltb, leb, eqb}
use Rattle.counting.specs.Count.{list_of}
use Rattle.paper.specs.declared.Answer.{Answer}
use Rattle.paper.specs.Upload.{four_at}
use Rattle.paper.specs.Refusals.{given}
use Rattle.paper.specs.Calls.{replay_behind}

-- c, the number of entries
abbrev pub count_of : List ℕ → ℕ
count_of batch = four_at batch 0

-- where the header ends
abbrev pub header_end : List ℕ → ℕ
header_end batch = 4 + 8 * count_of batch

abbrev pub offset_of : List ℕ → ℕ → ℕ
offset_of batch i = four_at batch (4 + 8 * i)

abbrev pub length_of : List ℕ → ℕ → ℕ
length_of batch i = four_at batch (8 + 8 * i)

-- 1: batch under 4 bytes or over 65,536, c out of range, or entries beyond its end
unfoldable pub header_wrong : List ℕ → Bool
header_wrong batch =
    ltb (length batch) 4
    || ltb 65536 (length batch)
    || eqb (count_of batch) 0
    || ltb 64 (count_of batch)
    || ltb (length batch) (header_end batch)

-- 2: the span starts before 4 + 8c, or offset plus length, summed exactly, passes the batch's length; or there is no such entry
unfoldable pub span_outside : List ℕ → ℕ → Bool
span_outside batch i =
    leb (count_of batch) i
    || ltb (offset_of batch i) (header_end batch)
    || ltb (length batch) (offset_of batch i + length_of batch i)

-- the part of the batch that an entry names
abbrev pub part_of : List ℕ → ℕ → List ℕ
part_of batch i = take (length_of batch i) (drop (offset_of batch i) batch)

-- an entry's answer: the replay of its part, where 1 and 2 aren't given
unfoldable pub entry_answer : List ℕ → ℕ → Answer
entry_answer batch i = replay_behind (given (header_wrong batch) 1 0) (given (span_outside batch i) 2 0) (part_of batch i)

-- the list of a batch's answers
unfoldable pub answers_of : List ℕ → List Answer
answers_of batch = list_of (count_of batch) (entry_answer batch)

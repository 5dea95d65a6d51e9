-- An entry's answer is the replay of its part and depends on nothing else; every entry has one line, in order.
use Rattle.std.specs.Prelude.{ℕ, ◌+◌, ◌≤◌, ◌<◌, true, false, ◌≡◌, ◌⊎◌, List, [], ◌∷◌, ◌++◌, eqb, length, set}
use Rattle.counting.specs.Count.{bit, joined}
use Rattle.paper.specs.declared.Answer.{Answer}
use Rattle.paper.specs.Upload.{byte_at}
use Rattle.paper.specs.Calls.{refused_with, replay_answer}
use Rattle.paper.specs.Batch.{header_end, count_of, offset_of, length_of, part_of, header_wrong, span_outside, entry_answer}
use Rattle.paper.specs.Lines.{newline, line_of, text_of}

-- every entry of a batch with a refused header is answered 1
abbrev pub HeaderFirst : Type 0
HeaderFirst =
    (batch : List ℕ) (i : ℕ) → header_wrong batch ≡ true → entry_answer batch i ≡ refused_with (record { number = 1; place = 0 })

-- an entry whose span is outside is answered 2
abbrev pub SpanNext : Type 0
SpanNext =
    (batch : List ℕ) (i : ℕ) →
    header_wrong batch ≡ false →
    span_outside batch i ≡ true →
    entry_answer batch i ≡ refused_with (record { number = 2; place = 0 })

-- where 1 and 2 aren't given, an entry's answer is the replay of its part
abbrev pub PartReplayed : Type 0
PartReplayed =
    (batch : List ℕ) (i : ℕ) →
    header_wrong batch ≡ false →
    span_outside batch i ≡ false →
    entry_answer batch i ≡ replay_answer (part_of batch i)

-- entries of two batches whose spans lie inside and hold equal bytes are answered the same, whatever their numbers
abbrev pub EqualParts : Type 0
EqualParts =
    (batch other : List ℕ) (i j : ℕ) →
    header_wrong batch ≡ false →
    header_wrong other ≡ false →
    span_outside batch i ≡ false →
    span_outside other j ≡ false →
    part_of batch i ≡ part_of other j →
    entry_answer batch i ≡ entry_answer other j

-- two batches of one length with the same header, and the same bytes in an entry's span, answer that entry the same
abbrev pub NothingElse : Type 0
NothingElse =
    (batch other : List ℕ) (i : ℕ) →
    length batch ≡ length other →
    ((k : ℕ) → k < header_end batch → byte_at batch k ≡ byte_at other k) →
    ((k : ℕ) → offset_of batch i ≤ k → k < offset_of batch i + length_of batch i → byte_at batch k ≡ byte_at other k) →
    entry_answer batch i ≡ entry_answer other i

-- a byte changed behind the header, before or behind an entry's span, changes nothing of its answer
abbrev pub ByteOutside : Type 0
ByteOutside =
    (batch : List ℕ) (i k byte : ℕ) →
    header_end batch ≤ k →
    (k < offset_of batch i) ⊎ (offset_of batch i + length_of batch i ≤ k) →
    entry_answer (set batch k byte) i ≡ entry_answer batch i

-- the text is the lines of the entries 0, 1, .., c - 1, one after another
abbrev pub LineEach : Type 0
LineEach =
    (batch : List ℕ) → header_wrong batch ≡ false → text_of batch ≡ joined (count_of batch) (λ i. line_of i (entry_answer batch i))

-- how many bytes are newlines
unfoldable pub newlines : List ℕ → ℕ
newlines [] = 0
newlines (b ∷ rest) = bit (eqb b newline) + newlines rest

-- a line ends with its one newline
abbrev pub LineEnds : Type 0
LineEnds = (i : ℕ) (a : Answer) → (front : List ℕ) × (line_of i a ≡ front ++ (newline ∷ [])) × (newlines front ≡ 0)

pub record Independent : Type 0 where
  pub header_first : HeaderFirst
  pub span_next : SpanNext
  pub part_replayed : PartReplayed
  pub equal_parts : EqualParts
  pub nothing_else : NothingElse
  pub byte_outside : ByteOutside
  pub line_each : LineEach
  pub line_ends : LineEnds

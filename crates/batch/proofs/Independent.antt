-- What an entry's answer depends on, proved of the definitions.
use Prim.Native.Nat.{ℕ, zero, suc, ◌+◌, ◌*◌, ◌/◌, ◌%◌, ◌≤◌, ◌<◌}
use mathlib.Core.Bool.{Bool, true, false, cond}
use mathlib.Core.Path.{◌≡◌, refl, sym, ◌∙◌}
use mathlib.Core.Logic.{⊎_elim}
use mathlib.Core.List.{List, [], ◌∷◌, ◌++◌}
use native.Mathlib.Omega.{arith}
use native.Mathlib.Decide.{dec_lt}
use borrow.Author.Tests.{le-leb, ne_eqb}
use lib.Dec.{ltb}
use lib.ListN.{length, set, take, drop, length-set, length-take, length-drop}
use lib.Seq.{ext_get_or, get_or-take, get_or-drop, get_or-set_other}
use Rattle.paper.specs.Upload.{byte_at, four_at}
use Rattle.paper.specs.Refusals.{refusal}
use Rattle.paper.specs.Calls.{replay_behind}
use Rattle.paper.specs.Batch.{header_end, count_of, offset_of, length_of, part_of, header_wrong, span_outside, entry_answer, answers_of}
use Rattle.paper.specs.Lines.{digit, digits, decimal, space, newline, line_of, text_of}
use Rattle.lines.proofs.Ordered.{lines_joined}
use Rattle.batch.specs.Independent.{HeaderFirst, SpanNext, PartReplayed, EqualParts, NothingElse, ByteOutside, LineEach, LineEnds, Independent, newlines}
use Rattle.batch.proofs.Tests.{span_inside}

pub header_first : HeaderFirst
unfolding entry_answer replay_behind refusal
header_first batch i e = rw e

pub span_next : SpanNext
unfolding entry_answer replay_behind refusal
span_next batch i e f = rw (e, f)

pub part_replayed : PartReplayed
unfolding entry_answer
part_replayed batch i e f = rw (e, f)

pub equal_parts : EqualParts
equal_parts batch other i j e e' f f' p =
    rw (part_replayed batch i e f, part_replayed other j e' f', p)

pub line_each : LineEach
unfolding text_of answers_of
line_each batch e = rw e (lines_joined (count_of batch) (entry_answer batch))

-- the bytes before a place are the same
abbrev SameBefore : List ℕ → List ℕ → ℕ → Type 0
SameBefore batch other end = (k : ℕ) → k < end → byte_at batch k ≡ byte_at other k

-- the bytes of a span are the same
abbrev SameWithin : List ℕ → List ℕ → ℕ → ℕ → Type 0
SameWithin batch other start size = (k : ℕ) → start ≤ k → k < start + size → byte_at batch k ≡ byte_at other k

four_same : (batch other : List ℕ) (at end : ℕ) → SameBefore batch other end → at + 4 ≤ end → four_at batch at ≡ four_at other at
four_same batch other at end same h =
    rw (same at (omega arith), same (at + 1) (omega arith), same (at + 2) (omega arith), same (at + 2 + 1) (omega arith))

span_same : (batch other : List ℕ) (start size : ℕ) → length batch ≡ length other → SameWithin batch other start size → take size (drop start batch) ≡ take size (drop start other)
span_same batch other start size e same = ext_get_or 0 _ _ (simp (length-take, length-drop, e)) at
  where
    at : (k : ℕ) → k < length (take size (drop start batch)) → byte_at (take size (drop start batch)) k ≡ byte_at (take size (drop start other)) k
    at k h =
        let inside : k < size = omega (arith, length-take size (drop start batch)) in
        rw (get_or-take size (drop start batch) k 0 inside, get_or-take size (drop start other) k 0 inside, get_or-drop start batch k 0, get_or-drop start other k 0)
        (same (start + k) (omega arith) (omega arith))

-- two batches of one length with the same header
module _ (batch other : List ℕ) (e : length batch ≡ length other) (same : SameBefore batch other (header_end batch)) where
  count_same : count_of batch ≡ count_of other
  count_same = four_same batch other 0 (header_end batch) same (omega arith)

  header_same : header_wrong batch ≡ header_wrong other
  unfolding header_wrong
  header_same = rw (e, count_same)

  offset_same : (i : ℕ) → i < count_of batch → offset_of batch i ≡ offset_of other i
  offset_same i h = four_same batch other (4 + 8 * i) (header_end batch) same (omega arith)

  length_same : (i : ℕ) → i < count_of batch → length_of batch i ≡ length_of other i
  length_same i h = four_same batch other (8 + 8 * i) (header_end batch) same (omega arith)

  outside_same : (i : ℕ) → span_outside batch i ≡ span_outside other i
  unfolding span_outside
  outside_same i = go (dec_lt i (count_of batch))
    where
      go : Dec (i < count_of batch) → span_outside batch i ≡ span_outside other i
      go (yes h) = rw (e, count_same, offset_same i h, length_same i h)
      go (no h) = rw (le-leb (count_of batch) i (omega arith), le-leb (count_of other) i (omega (arith, count_same)))

pub nothing_else : NothingElse
nothing_else batch other i e header span = go (header_wrong batch) refl (span_outside batch i) refl
  where
    wrong : header_wrong batch ≡ header_wrong other
    wrong = header_same batch other e header

    outside : span_outside batch i ≡ span_outside other i
    outside = outside_same batch other e header i

    parts : i < count_of batch → part_of batch i ≡ part_of other i
    parts h =
        span_same batch other (offset_of batch i) (length_of batch i) e span
        ∙ rw (offset_same batch other e header i h, length_same batch other e header i h)

    go : (w : Bool) → header_wrong batch ≡ w → (o : Bool) → span_outside batch i ≡ o → entry_answer batch i ≡ entry_answer other i
    go true p o q = header_first batch i p ∙ sym (header_first other i (sym wrong ∙ p))
    go false p true q = span_next batch i p q ∙ sym (span_next other i (sym wrong ∙ p) (sym outside ∙ q))
    go false p false q =
        equal_parts batch other i i p (sym wrong ∙ p) q (sym outside ∙ q) (parts (span_inside batch i q).named)

pub byte_outside : ByteOutside
byte_outside batch i k byte behind apart =
    sym
    (nothing_else batch (set batch k byte) i
    (sym (length-set batch k byte))
    (λ j h. sym (get_or-set_other batch k j byte 0 (λ z. omega arith)))
    (λ j from to. sym (get_or-set_other batch k j byte 0 (λ z. ⊎_elim (λ before. omega arith) (λ after. omega arith) apart))))

newlines_append : (l m : List ℕ) → newlines (l ++ m) ≡ newlines l + newlines m
unfolding newlines
newlines_append [] m = omega arith
newlines_append (b ∷ l) m = let h = newlines_append l m in omega arith

newlines_digit : (k : ℕ) → newlines (digit k ∷ []) ≡ 0
unfolding newlines
newlines_digit k = rw (ne_eqb (digit k) newline (λ e. omega arith))

newlines_digits : (more k : ℕ) → newlines (digits more k) ≡ 0
unfolding digits
newlines_digits zero k = newlines_digit k
newlines_digits (suc more) k = go (ltb k 10) (newlines_digits more (k / 10))
  where
    go : (b : Bool) → newlines (digits more (k / 10)) ≡ 0 → newlines (cond b (digit k ∷ []) (digits more (k / 10) ++ (digit (k % 10) ∷ []))) ≡ 0
    go true h = newlines_digit k
    go false h = let last = newlines_digit (k % 10) in omega (arith, newlines_append (digits more (k / 10)) (digit (k % 10) ∷ []))

-- a number after others on a line
newlines_next : (front : List ℕ) (k : ℕ) → newlines front ≡ 0 → newlines (front ++ (space ∷ decimal k)) ≡ 0
unfolding newlines
newlines_next front k h = omega (arith, newlines_digits 4 k, newlines_append front (space ∷ decimal k))

pub line_ends : LineEnds
unfolding line_of
line_ends i a = (
  _,
  refl,
  newlines_next _ a.waiting
      (newlines_next _ a.root
      (newlines_next _ a.outcome
      (newlines_next _ a.steps (newlines_next _ a.place (newlines_next _ a.refusal (newlines_digits 4 i)))))),
)

pub independent : Independent
independent =
    record {
      header_first = header_first;
      span_next = span_next;
      part_replayed = part_replayed;
      equal_parts = equal_parts;
      nothing_else = nothing_else;
      byte_outside = byte_outside;
      line_each = line_each;
      line_ends = line_ends;
    }

-- The table of labels: a loop that rewrites it from the front, one byte a turn, and what it says once every link is passed.
use Prim.Native.Nat.{ℕ, ◌+◌, ◌≤◌, ◌<◌}
use mathlib.Core.Path.{◌≡◌, ◌∙◌}
use mathlib.Core.List.{List}
use native.Mathlib.Omega.{arith}
use lib.ListN.{length, get_or}
use lib.Dec.{eqb}
use mathlib.Core.Bool.{true, false}
use native.Mathlib.Numerals.{add-one}
use Rattle.counting.specs.Count.{all}
use Rattle.counting.proofs.Tests.{all_alike}
use Rattle.paper.specs.Table.{Table, labels, one_piece}
use Rattle.table.specs.Labels.{Labelled, Rewritten, EndsWithin, own_number, joined_by}

-- the bytes below k are rewritten, the others are as they were
pub record Reached (f : ℕ → ℕ → ℕ) (before : List ℕ) (k : ℕ) (after : List ℕ) : Type 0 where
  pub count : length after ≡ length before
  pub done : (x : ℕ) → x < k → get_or after x 0 ≡ f x (get_or before x 0)
  pub kept : (x : ℕ) → k ≤ x → get_or after x 0 ≡ get_or before x 0

module _ (t : Table) where
  pub labelled_none : (before after : List ℕ) → length before ≡ t.nodes → Rewritten own_number before after → Labelled t 0 after
  unfolding labels
  labelled_none before after e w = record { count = w.count ∙ e; label = λ x h. w.label x (omega (arith, e)) }

  -- link k gives all nodes that have its second node's label the label of its first
  pub labelled_more : (k : ℕ) (before after : List ℕ) → EndsWithin t k t.nodes → Labelled t k before → Rewritten (joined_by t k before) before after → Labelled t (k + 1) after
  unfolding labels
  labelled_more k before after ends l w =
      record {
        count = w.count ∙ l.count;
        label = λ x h.
            rw (add-one, ← l.label x h, ← l.label _ (ends true), ← l.label _ (ends false))
            (w.label x (omega (arith, l.count)));
      }

  -- all labels are node 0's
  pub labelled_same : (bytes : List ℕ) → 1 ≤ t.nodes → Labelled t t.links bytes → all (length bytes) (λ x. eqb (get_or bytes x 0) (get_or bytes 0 0)) ≡ one_piece t
  unfolding one_piece
  labelled_same bytes some l =
      rw (l.count, l.label 0 some) (all_alike _ _ _ (λ x h. rw (l.label x h)))

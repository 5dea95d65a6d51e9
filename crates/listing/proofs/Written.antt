-- Entries that follow one another in a buffer.
use Prim.Native.Nat.{ℕ, suc, ◌+◌, ◌*◌, ◌≤◌}
use mathlib.Core.List.{List, [], ◌∷◌, ◌++◌}
use mathlib.Core.Path.{◌≡◌, refl, sym, ap, ap₂, subst, ◌∙◌}
use native.Mathlib.Numerals.{add-one}
use native.Mathlib.Nat.{add-zero, zero-add, mul-suc}
use native.Mathlib.Omega.{arith}
use lib.ListN.{length, length-append, drop, set}
use lib.Seq.{sets, sets-eq}
use Rattle.counting.specs.Count.{joined}
use Rattle.paper.specs.Calls.{over}
use Rattle.listing.specs.declared.Writer.{Writer}
use Rattle.listing.specs.Wrote.{Wrote}
use Rattle.listing.specs.Appends.{Appends}

-- of `lines` and `listing` neither rests on the other, and std has no law of `sets` behind another: it stands in both
sets_append : (l k o : List ℕ) (at : ℕ) → sets o at (l ++ k) ≡ sets (sets o at l) (at + length l) k
sets_append [] k o at = rw add-zero
sets_append (a ∷ l) k o at =
    let step : at + suc (length l) ≡ suc at + length l = omega arith in
    rw step (sets_append l k (set o at a) (suc at))

pub wrote_more : {o p q : List ℕ} {a b c : ℕ} (l k : List ℕ) → Wrote o a l p b → Wrote p b k q c → Wrote o a (l ++ k) q c
wrote_more {o} {p} {q} {a} {b} {c} l k first second =
    record {
      bytes =
          second.bytes
          ∙ ap₂ (λ (r : List ℕ) (n : ℕ). sets r n k) first.bytes first.count
          ∙ sym (sets_append l k o (3 * a));
      count = omega (arith, first.count, second.count, length-append l k);
    }

-- the buffer ends as another does
pub wrote_left : {o p q l : List ℕ} {a b : ℕ} → q ≡ p → Wrote o a l p b → Wrote o a l q b
wrote_left {o} {p} {q} {l} {a} {b} e w = subst (λ (r : List ℕ). Wrote o a l r b) (sym e) w

-- the whole list, where there is room for it
pub wrote_over : {o p : List ℕ} {n : ℕ} (l : List ℕ) → Wrote o 0 l p n → length l ≤ length o → p ≡ over l o
wrote_over {o} l w h =
    w.bytes ∙ sets-eq l o 0 (omega arith) ∙ ap (λ (n : ℕ). l ++ drop n o) (zero-add (length l))

-- nothing is added
pub appends_none : (w : Writer) (k : ℕ) → Appends w [] k w
appends_none w k = record { wrote = record { bytes = refl; count = omega arith }; few = omega arith; lent = refl }

-- more is added
pub appends_more : {w v u : Writer} {l k : List ℕ} {a b : ℕ} → Appends w l a v → Appends v k b u → Appends w (l ++ k) (a + b) u
appends_more {l = l} {k = k} first second =
    record {
      wrote = wrote_more l k first.wrote second.wrote;
      few = omega (arith, first.few, second.few);
      lent = second.lent ∙ first.lent;
    }

pub appends_as : {w v : Writer} {l k : List ℕ} {a : ℕ} → l ≡ k → Appends w l a v → Appends w k a v
appends_as {w} {v} {l} {k} {a} e h = subst (λ (r : List ℕ). Appends w r a v) e h

pub appends_most : {w v : Writer} {l : List ℕ} {a : ℕ} (b : ℕ) → a ≤ b → Appends w l a v → Appends w l b v
appends_most b e h = record { wrote = h.wrote; few = omega (arith, h.few); lent = h.lent }

-- a list of lists, of k entries at most each, from none of them on
pub appends_start : (w : Writer) (k : ℕ) (f : ℕ → List ℕ) → Appends w (joined 0 f) (k * 0) w
unfolding joined
appends_start w k f = appends_none w (k * 0)

-- by one of them more
pub appends_next : {w v u : Writer} (k i : ℕ) (f : ℕ → List ℕ) → Appends w (joined i f) (k * i) v → Appends v (f i) k u → Appends w (joined (i + 1) f) (k * (i + 1)) u
unfolding joined
appends_next k i f first second = rw (add-one, mul-suc) (appends_more first second)

-- which is empty
pub appends_same : {w v : Writer} (k i : ℕ) (f : ℕ → List ℕ) → Appends w (joined i f) (k * i) v → f i ≡ [] → Appends w (joined (i + 1) f) (k * (i + 1)) v
appends_same {w} {v} k i f h none = appends_next k i f h (appends_as (sym none) (appends_none v k))

-- to the last
pub appends_end : {w v : Writer} (k i n : ℕ) (f : ℕ → List ℕ) → i ≡ n → Appends w (joined i f) (k * i) v → Appends w (joined n f) (k * n) v
appends_end {w} {v} k i n f e h = subst (λ (j : ℕ). Appends w (joined j f) (k * j) v) e h

-- Laws of writing into a lent buffer: one text after another.
use Prim.Native.Nat.{ℕ, suc, ◌+◌, ◌≤◌}
use native.Mathlib.Nat.{zero-add, add-zero, add-suc, suc-add}
use mathlib.Core.Path.{◌≡◌, ap, sym, ◌∙◌}
use mathlib.Core.List.{List, [], ◌∷◌, ◌++◌}
use native.Mathlib.Omega.{arith}
use lib.ListN.{length, set, length-append}
use lib.Seq.{sets, sets-eq}
use Rattle.paper.specs.Calls.{over}
use Rattle.lines.specs.declared.Text.{Text}
use Rattle.lines.specs.Text.{Writes}

-- of `lines` and `listing` neither rests on the other, and std has no law of `sets` behind another: it stands in both
pub sets_append : (o : List ℕ) (at : ℕ) (l m : List ℕ) → sets o at (l ++ m) ≡ sets (sets o at l) (at + length l) m
sets_append o at [] m = rw (add-zero at)
sets_append o at (b ∷ l) m = sets_append (set o at b) (suc at) l m ∙ ap (λ (n : ℕ). sets (sets (set o at b) (suc at) l) n m) (suc-add at (length l) ∙ sym (add-suc at (length l)))

-- one text, then another from where it ends
pub then : {a b c : Text} {l m : List ℕ} → Writes a l b → Writes b m c → Writes a (l ++ m) c
then {a} {b} {c} {l} {m} p q =
    record {
      left = q.left ∙ rw (p.place, p.left) (sym (sets_append a.out.now a.at l m));
      place = omega (arith, length-append l m, p.place, q.place);
      same_buffer = q.same_buffer ∙ p.same_buffer;
    }

-- from the buffer's start, where there is room
pub over_all : (text before : List ℕ) {after : List ℕ} → after ≡ sets before 0 text → length text ≤ length before → after ≡ over text before
over_all text before e h = e ∙ sets-eq text before 0 (omega arith) ∙ rw (zero-add (length text))

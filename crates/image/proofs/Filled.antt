-- Bytes of one value at the front, and the fresh image made of them.
use Rattle.std.proofs.Common.{◌≡◌, ℕ, zero, suc, ◌+◌, ◌-◌, ◌*◌, ◌<◌, ◌≤◌, List, [], ◌∷◌, ◌++◌, length, get_or, set, drop, replicate, refl, sym, ap, ◌∙◌, arith, add-one, zero-add, append_assoc, length-append, length-drop}
use Rattle.std.proofs.Math.Seq.{drop-cons, set-append_seam}
use Rattle.std.proofs.lemmas.List.{length-replicate, get_or-replicate, get_or-drop, get_or_append_left, get_or-append_right, replicate-append-replicate}
use borrow.Author.Tests.{lt-ltb}
use Rattle.counting.proofs.Bits.{bit_most}
use Rattle.paper.specs.Table.{Table}
use Rattle.paper.specs.State.{fresh}
use Rattle.paper.specs.Image.{image_of, image_length, direction_at}
use Rattle.paper.proofs.Images.{image_is}
use Rattle.image.specs.Parts.{filled, Blank}

-- one more of the value at the front
front_more : (l : List ℕ) (k v : ℕ) → k < length l → set (replicate k v ++ drop k l) (0 + k) v ≡ replicate (suc k) v ++ drop (suc k) l
front_more l k v h =
    ap (λ r. set (replicate k v ++ r) (0 + k) v) (drop-cons l k 0 h)
    ∙ ap (λ j. set (replicate k v ++ get_or l k 0 ∷ drop (suc k) l) j v) (zero-add k ∙ sym (length-replicate k v))
    ∙ set-append_seam (replicate k v) (get_or l k 0) (drop (suc k) l) v
    ∙ sym (append_assoc (replicate k v) (v ∷ []) (drop (suc k) l))
    ∙ ap (λ r. r ++ drop (suc k) l) (replicate-append-replicate k 1 v ∙ ap (λ j. replicate j v) (add-one k))

-- the first k bytes of one value, before the others
pub filled_front : (l : List ℕ) (k v : ℕ) → k ≤ length l → replicate k v ++ drop k l ≡ filled l 0 k v
unfolding filled
filled_front l zero v h = refl
filled_front l (suc k) v h = sym (front_more l k v h) ∙ ap (λ r. set r (0 + k) v) (filled_front l k v (omega arith))

-- bytes of nodes that wait, before bytes of directions that are blank, are the fresh image
pub fresh_made : (t : Table) (rest : List ℕ) → length rest ≡ 2 * t.links → Blank rest → replicate t.nodes 1 ++ rest ≡ image_of t (fresh t)
fresh_made t rest e blank =
    image_is t (fresh t) (front ++ rest) (simp (length-append, length-replicate) (omega arith)) (λ x h. get_or_append_left front rest 0 x (simp length-replicate h) ∙ get_or-replicate t.nodes x 1 0 h ∙ rw (lt-ltb x t.nodes h)) (λ i b h. get_or-append_right front rest t.nodes (direction_at t i b) 0 (length-replicate t.nodes 1) (omega arith) ∙ blank (direction_at t i b - t.nodes) (omega (arith, bit_most b)))
  where
    front : List ℕ
    front = replicate t.nodes 1

-- of a blank image, once every node waits
pub fresh_woken : (t : Table) (l : List ℕ) → length l ≡ image_length t → Blank l → filled l 0 t.nodes 1 ≡ image_of t (fresh t)
fresh_woken t l e blank =
    sym (filled_front l t.nodes 1 (omega arith))
    ∙ fresh_made t (drop t.nodes l) (simp length-drop (omega arith)) (λ j h. get_or-drop t.nodes l j 0 ∙ blank (t.nodes + j) (omega (arith, length-drop t.nodes l)))

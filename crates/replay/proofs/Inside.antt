-- What a table says beyond its links is never asked: everything that a call answers is the same of the table with nothing beyond them.
use Prim.Native.Nat.{ℕ, zero, suc, ◌+◌, ◌≤◌, ◌<◌}
use mathlib.Core.Bool.{Bool, true, false, not, cond, ◌&&◌, ◌||◌}
use mathlib.Core.Path.{◌≡◌, refl, ap, ◌∙◌}
use mathlib.Core.List.{List, [], ◌∷◌, ◌++◌}
use native.Mathlib.Omega.{arith}
use lib.Dec.{eqb, ltb, leb}
use borrow.Author.Tests.{lt-ltb, ltb-true}
use Rattle.counting.specs.Count.{bit, all, some, least, joined}
use Rattle.counting.proofs.Sums.{sum_eq}
use Rattle.counting.proofs.Tests.{all_alike}
use Rattle.paper.specs.Upload.{byte_at}
use Rattle.paper.specs.Table.{Table, source, labels, one_piece}
use Rattle.paper.specs.State.{State, none}
use Rattle.paper.specs.Steps.{Step, children_known, add_child, acknowledge, resolve, become_root, unheard, carries, is_request, sends, at, at_direction, possible, effect}
use Rattle.paper.specs.Image.{direction_at, state_of, sound_direction, sound}
use Rattle.paper.specs.Report.{moving, outcome_of, outcome_at_rest, roots, waiting_count}
use Rattle.paper.specs.Actions.{Reading, names, unread, joins, link_between, direction_from, link_step, read_node, of_node, of_link, reading, refused_by, state_after, listed}
use Rattle.paper.specs.Refusals.{given, first, link_refusal, links_refusal}
use Rattle.paper.proofs.Changes.{InTable, possible_in_table}
use Rattle.paper.proofs.Kept.{possible_taken}

-- tests that agree below n
some_eq : (n : ℕ) (p q : ℕ → Bool) → ((i : ℕ) → i < n → p i ≡ q i) → some n p ≡ some n q
unfolding some
some_eq zero p q h = refl
some_eq (suc n) p q h = let e = some_eq n p q (λ i l. h i (omega arith)) in λ j. e j || h n (omega arith) j

least_eq : (n : ℕ) (p q : ℕ → Bool) (d : ℕ) → ((i : ℕ) → i < n → p i ≡ q i) → least n p d ≡ least n q d
unfolding least
least_eq zero p q d h = refl
least_eq (suc n) p q d h =
    least_eq n p q (cond (p n) n d) (λ i l. h i (omega arith)) ∙ ap (λ (b : Bool). least n q (cond b n d)) (h n (omega arith))

-- the table with node 0 at both ends of every link beyond its links
abbrev pub inside : Table → Table
inside t =
    record { nodes = t.nodes; links = t.links; end = λ i b. cond (ltb i t.links) (t.end i b) 0 }

module _ (t : Table) where
  same_end : (i : ℕ) (b : Bool) → i < t.links → (inside t).end i b ≡ t.end i b
  same_end i b l = ap (λ (d : Bool). cond d (t.end i b) 0) (lt-ltb i t.links l)

  -- what is asked only of a link
  guarded : (i : ℕ) (p q : Bool) → (i < t.links → p ≡ q) → (ltb i t.links && p) ≡ (ltb i t.links && q)
  guarded i p q h = go (ltb i t.links) refl
    where
      go : (b : Bool) → ltb i t.links ≡ b → (b && p) ≡ (b && q)
      go true e = h (ltb-true i t.links e)
      go false e = refl

  unheard_inside : (s : State) (x : ℕ) → unheard (inside t) s x ≡ unheard t s x
  unheard_inside s x =
      sum_eq t.links _ _
      (λ i l j. bit (eqb (same_end i true l j) x && not (s.child i false)) + bit (eqb (same_end i false l j) x && not (s.child i true)))

  possible_inside : (s : State) (z : Step) → possible (inside t) s z ≡ possible t s z
  unfolding possible
  possible_inside s (children_known x) =
      ap (λ (k : ℕ). ltb x t.nodes && (s.waiting x && leb k 1)) (unheard_inside s x)
  possible_inside s (add_child i b) =
      guarded i _ _ (λ l j. s.waiting (same_end i (not b) l j) && carries (s.message i b))
  possible_inside s (acknowledge i b) =
      guarded i _ _ (λ l j. not (s.waiting (same_end i (not b) l j)) && carries (s.message i b))
  possible_inside s (resolve i b) =
      guarded i _ _ (λ l j. s.contending (same_end i b l j) && s.contending (same_end i (not b) l j))
  possible_inside s (become_root x) =
      ap (λ (k : ℕ). ltb x t.nodes && (not (s.root x) && eqb k 0)) (unheard_inside s x)

  effect_inside : (s : State) (z : Step) → InTable t z → effect (inside t) s z ≡ effect t s z
  unfolding effect
  effect_inside s (children_known x) l =
      λ j.
      record {
        waiting = at s.waiting x false;
        contending = s.contending;
        root = s.root;
        child = s.child;
        message = λ i b. cond (guarded i (eqb (source (inside t) i b) x) (eqb (source t i b) x) (λ g. ap (λ (k : ℕ). eqb k x) (same_end i b g)) j) (sends (s.child i (not b))) (s.message i b);
      }
  effect_inside s (add_child i b) l = refl
  effect_inside s (acknowledge i b) l =
      λ j.
      record {
        waiting = s.waiting;
        contending = at s.contending (same_end i (not b) l j) (is_request (s.message i b));
        root = s.root;
        child = s.child;
        message = at_direction s.message i b none;
      }
  effect_inside s (resolve i b) l =
      λ j.
      record {
        waiting = s.waiting;
        contending = at (at s.contending (same_end i b l j) false) (same_end i (not b) l j) false;
        root = s.root;
        child = at_direction s.child i b true;
        message = s.message;
      }
  effect_inside s (become_root x) l = refl

  joins_inside : (x y i : ℕ) → i < t.links → joins (inside t) x y i ≡ joins t x y i
  joins_inside x y i l =
      λ j.
      (eqb (same_end i false l j) x && eqb (same_end i true l j) y) || (eqb (same_end i false l j) y && eqb (same_end i true l j) x)

  between_inside : (x y : ℕ) → link_between (inside t) x y ≡ link_between t x y
  between_inside x y = least_eq t.links (joins (inside t) x y) (joins t x y) t.links (joins_inside x y)

  named_inside : (kind i x : ℕ) → cond (ltb i t.links) (names (link_step kind i (direction_from (inside t) i x))) (unread 10) ≡ cond (ltb i t.links) (names (link_step kind i (direction_from t i x))) (unread 10)
  named_inside kind i x = go (ltb i t.links) refl
    where
      go : (b : Bool) → ltb i t.links ≡ b → cond b (names (link_step kind i (direction_from (inside t) i x))) (unread 10) ≡ cond b (names (link_step kind i (direction_from t i x))) (unread 10)
      go true e = ap (λ (k : ℕ). names (link_step kind i (not (eqb k x)))) (same_end i false (ltb-true i t.links e))
      go false e = refl

  reading_inside : (kind x y : ℕ) → reading (inside t) kind x y ≡ reading t kind x y
  unfolding reading
  reading_inside kind x y =
      ap (λ (r : Reading). cond (of_node kind) (read_node t kind x y) (cond (of_link kind) (cond (ltb x t.nodes && ltb y t.nodes) r (unread 9)) (unread 9)))
      (ap (λ (i : ℕ). cond (ltb i t.links) (names (link_step kind i (direction_from (inside t) i x))) (unread 10)) (between_inside x y)
      ∙ named_inside kind (link_between t x y) x)

  refused_inside : (s : State) (r : Reading) → refused_by (inside t) s r ≡ refused_by t s r
  refused_inside s (names z) = ap (λ (b : Bool). cond b 0 11) (possible_inside s z)
  refused_inside s (unread number) = refl

  pub number_inside : (s : State) (kind x y : ℕ) → refused_by (inside t) s (reading (inside t) kind x y) ≡ refused_by t s (reading t kind x y)
  number_inside s kind x y = refused_inside s (reading (inside t) kind x y) ∙ ap (refused_by t s) (reading_inside kind x y)

  after_read : (s : State) (r : Reading) → refused_by t s r ≡ 0 → state_after (inside t) s r ≡ state_after t s r
  after_read s (names z) e = effect_inside s z (possible_in_table t s z (possible_taken t s z e))
  after_read s (unread number) e = refl

  pub after_inside : (s : State) (kind x y : ℕ) → refused_by t s (reading t kind x y) ≡ 0 → state_after (inside t) s (reading (inside t) kind x y) ≡ state_after t s (reading t kind x y)
  after_inside s kind x y e = ap (state_after (inside t) s) (reading_inside kind x y) ∙ after_read s (reading t kind x y) e

  pub listed_inside : (s : State) → listed (inside t) s ≡ listed t s
  unfolding listed
  listed_inside s =
      λ j.
      joined 5 (λ k. joined t.nodes (λ x. joined t.nodes (λ y. cond (eqb (number_inside s (suc k) x y j) 0) (suc k ∷ x ∷ y ∷ []) []) ++ cond (eqb (number_inside s (suc k) x 255 j) 0) (suc k ∷ x ∷ 255 ∷ []) []))

  moving_inside : (s : State) → moving (inside t) s ≡ moving t s
  unfolding moving
  moving_inside s =
      λ j.
      some t.nodes (λ x. possible_inside s (children_known x) j || possible_inside s (become_root x) j)
      || some t.links (λ i. (possible_inside s (add_child i false) j || (possible_inside s (acknowledge i false) j || possible_inside s (resolve i false) j)) || (possible_inside s (add_child i true) j || (possible_inside s (acknowledge i true) j || possible_inside s (resolve i true) j)))

  pub outcome_inside : (s : State) → outcome_of (inside t) s ≡ outcome_of t s
  outcome_inside s =
      ap (λ (b : Bool). cond b 1 (outcome_at_rest t.nodes t.links (roots t s) (waiting_count t s))) (moving_inside s)

  direction_inside : (image : List ℕ) (i : ℕ) (b : Bool) → i < t.links → sound_direction (inside t) image i b ≡ sound_direction t image i b
  direction_inside image i b l =
      ap (λ (x : ℕ). ltb (byte_at image (direction_at t i b)) 6 && not ((state_of t image).waiting x && carries ((state_of t image).message i b))) (same_end i b l)

  pub sound_inside : (image : List ℕ) → sound (inside t) image ≡ sound t image
  unfolding sound
  sound_inside image =
      ap (λ (b : Bool). all t.nodes (λ x. ltb (byte_at image x) 8) && b)
      (all_alike t.links _ _ (λ i l j. direction_inside image i false l j && direction_inside image i true l j))

  link_inside : (i : ℕ) → i < t.links → link_refusal (inside t) i ≡ link_refusal t i
  link_inside i l =
      let a = same_end i false l in
      let b = same_end i true l in
      let again : some i (joins (inside t) ((inside t).end i false) ((inside t).end i true)) ≡ some i (joins t (t.end i false) (t.end i true)) = (λ j. some i (joins (inside t) (a j) (b j))) ∙ some_eq i _ _ (λ k g. joins_inside (t.end i false) (t.end i true) k (omega arith)) in
      λ j.
      first (given (not (ltb (a j) t.nodes && ltb (b j) t.nodes)) 5 i ∷ given (eqb (a j) (b j)) 6 i ∷ given (again j) 7 i ∷ [])

  pub links_inside : (k i : ℕ) → i + k ≤ t.links → links_refusal (inside t) i k ≡ links_refusal t i k
  unfolding links_refusal
  links_inside zero i l = refl
  links_inside (suc k) i l =
      let rest = links_inside k (suc i) (omega arith) in
      λ j. first (link_inside i (omega arith) j ∷ rest j ∷ [])

  labels_inside : (k x : ℕ) → k ≤ t.links → labels (inside t) k x ≡ labels t k x
  unfolding labels
  labels_inside zero x l = refl
  labels_inside (suc k) x l =
      let own = labels_inside k x (omega arith) in
      let second = ap (labels (inside t) k) (same_end k true (omega arith)) ∙ labels_inside k (t.end k true) (omega arith) in
      let one = ap (labels (inside t) k) (same_end k false (omega arith)) ∙ labels_inside k (t.end k false) (omega arith) in
      λ j. cond (eqb (own j) (second j)) (one j) (own j)

  pub piece_inside : one_piece (inside t) ≡ one_piece t
  unfolding one_piece
  piece_inside =
      all_alike t.nodes _ _ (λ x l j. eqb (labels_inside t.links x (omega arith) j) (labels_inside t.links 0 (omega arith) j))

-- Two tables with the same nodes and links: the same steps are possible, with the same effect and the same report.
use Prim.Native.Nat.{ℕ, ◌<◌}
use mathlib.Core.Bool.{Bool, true, false, not, cond, ◌&&◌}
use mathlib.Core.Path.{◌≡◌, refl, sym, ap, ◌∙◌}
use mathlib.Core.List.{List, [], ◌∷◌}
use lib.Dec.{eqb, ltb, leb}
use borrow.Author.Tests.{ltb-true}
use Rattle.counting.specs.Count.{bit}
use Rattle.counting.proofs.Directions.{both_eq}
use Rattle.paper.specs.Table.{Table}
use Rattle.paper.specs.State.{none, State}
use Rattle.paper.specs.Steps.{Step, children_known, add_child, acknowledge, resolve, become_root, unheard, carries, is_request, sends, out_of, at, at_direction, possible, effect, after, taken}
use Rattle.paper.specs.Report.{moving, outcome_of, outcome_at_rest, roots, waiting_count}
use Rattle.std.proofs.lemmas.Bool.{and_from}
use Rattle.counting.proofs.Booleans.{and_left, and_right}
use Rattle.paper.proofs.Changes.{InTable, possible_in_table}
use Rattle.paper.proofs.Moving.{moves, moving_step}
use Rattle.election.proofs.Updates.{same_test}

-- a table's nodes and links with other ends
abbrev pub with_ends : Table → (ℕ → Bool → ℕ) → Table
with_ends t f = record { nodes = t.nodes; links = t.links; end = f }

-- the ends of the links are the same
abbrev pub SameEnds : Table → (ℕ → Bool → ℕ) → Type 0
SameEnds t f = (i : ℕ) (b : Bool) → i < t.links → t.end i b ≡ f i b

module _ (t : Table) (f : ℕ → Bool → ℕ) (same : SameEnds t f) where
  unheard_alike : (s : State) (x : ℕ) → unheard t s x ≡ unheard (with_ends t f) s x
  unheard_alike s x =
      both_eq t.links (λ i b. bit (eqb (t.end i (not b)) x && not (s.child i b))) (λ i b. bit (eqb (f i (not b)) x && not (s.child i b))) (λ i b l. ap (λ y. bit (eqb y x && not (s.child i b))) (same i (not b) l))

  possible_alike : (s : State) (x : Step) → possible t s x ≡ true → possible (with_ends t f) s x ≡ true
  unfolding possible
  possible_alike s (children_known x) p = ap (λ k. ltb x t.nodes && (s.waiting x && leb k 1)) (sym (unheard_alike s x)) ∙ p
  possible_alike s (add_child i b) p = ap (λ y. ltb i t.links && (s.waiting y && carries (s.message i b))) (sym (same i (not b) (possible_in_table t s (add_child i b) p))) ∙ p
  possible_alike s (acknowledge i b) p = ap (λ y. ltb i t.links && (not (s.waiting y) && carries (s.message i b))) (sym (same i (not b) (possible_in_table t s (acknowledge i b) p))) ∙ p
  possible_alike s (resolve i b) p =
      let l = possible_in_table t s (resolve i b) p in
      ap (λ y. ltb i t.links && (s.contending y && s.contending (f i (not b)))) (sym (same i b l)) ∙ (ap (λ y. ltb i t.links && (s.contending (t.end i b) && s.contending y)) (sym (same i (not b) l)) ∙ p)
  possible_alike s (become_root x) p = ap (λ k. ltb x t.nodes && (not (s.root x) && eqb k 0)) (sym (unheard_alike s x)) ∙ p

  effect_alike : (s : State) (x : Step) → InTable t x → effect t s x ≡ effect (with_ends t f) s x
  unfolding effect
  effect_alike s (children_known x) l =
      λ j.
      record {
        waiting = at s.waiting x false;
        contending = s.contending;
        root = s.root;
        child = s.child;
        message = λ i b. cond (out i b (ltb i t.links) refl j) (sends (s.child i (not b))) (s.message i b);
      }
    where
      out : (i : ℕ) (b : Bool) (c : Bool) → ltb i t.links ≡ c → out_of t x i b ≡ out_of (with_ends t f) x i b
      out i b true k = ap (λ y. ltb i t.links && eqb y x) (same i b (ltb-true i t.links k))
      out i b false k = rw k refl
  effect_alike s (add_child i b) l = refl
  effect_alike s (acknowledge i b) l =
      λ j.
      record {
        waiting = s.waiting;
        contending = at s.contending (same i (not b) l j) (is_request (s.message i b));
        root = s.root;
        child = s.child;
        message = at_direction s.message i b none;
      }
  effect_alike s (resolve i b) l =
      λ j.
      record {
        waiting = s.waiting;
        contending = at (at s.contending (same i b l j) false) (same i (not b) l j) false;
        root = s.root;
        child = at_direction s.child i b true;
        message = s.message;
      }
  effect_alike s (become_root x) l = refl

  -- the same lists of steps
  pub taken_alike : (s : State) (xs : List Step) → taken t s xs ≡ true → (taken (with_ends t f) s xs ≡ true) × (after t s xs ≡ after (with_ends t f) s xs)
  unfolding taken after
  taken_alike s [] h = (refl, refl)
  taken_alike s (x ∷ xs) h =
      let p = and_left (possible t s x) _ h in
      let (rest, end) = taken_alike (effect t s x) xs (and_right (possible t s x) _ h) in
      let e = effect_alike s x (possible_in_table t s x p) in
      (and_from _ _ (possible_alike s x p) (ap (λ s. taken (with_ends t f) s xs) (sym e) ∙ rest), end ∙ ap (λ s. after (with_ends t f) s xs) e)

  moves_alike : (s : State) → moving t s ≡ true → moving (with_ends t f) s ≡ true
  moves_alike s h = let (x, p) = moving_step t s h in moves (with_ends t f) s x (possible_alike s x p)

pub outcome_alike : (t : Table) (f : ℕ → Bool → ℕ) → SameEnds t f → (s : State) → outcome_of (with_ends t f) s ≡ outcome_of t s
outcome_alike t f same s =
    ap (λ c. cond c 1 (outcome_at_rest t.nodes t.links (roots t s) (waiting_count t s)))
    (same_test (moving (with_ends t f) s) (moving t s) (moves_alike (with_ends t f) t.end (λ i b l. sym (same i b l)) s) (moves_alike t f same s))

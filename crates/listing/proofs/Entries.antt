-- The entries of one kind and one x: at most one, for 255, in kinds 1 and 5, and none for 255 in kinds 2 to 4.
use Prim.Native.Nat.{ℕ, zero, suc, ◌<◌, ◌≤◌}
use mathlib.Core.Bool.{true, false, cond, and-false}
use mathlib.Core.List.{List, [], ◌∷◌, append-nil}
use mathlib.Core.Path.{◌≡◌, refl}
use native.Mathlib.Omega.{arith}
use Rattle.std.proofs.lemmas.Bool.Decides.{nat_tests}
use borrow.Author.Tests.{lt-ltb, le-ltb, ne_eqb}
use lib.Dec.{eqb}
use Rattle.std.specs.Prelude.{Option, Some, None, unwrap_or}
use Rattle.std.specs.Option.{ForSome}
use Rattle.counting.specs.Count.{joined}
use Rattle.paper.specs.Table.{Table}
use Rattle.paper.specs.State.{State}
use Rattle.paper.specs.Steps.{Step, possible}
use Rattle.paper.specs.Actions.{names, link_between, direction_from, node_step, link_step, of_node, of_link, reading, refused_by, entry, entries_at}
use Rattle.listing.specs.Links.{may_list}

pub joined_none : (n : ℕ) (f : ℕ → List ℕ) → ((y : ℕ) → y < n → f y ≡ []) → joined n f ≡ []
unfolding joined
joined_none zero f h = refl
joined_none (suc n) f h =
    let none = joined_none n f (λ y b. h y (omega arith)) in
    rw (none, h n (omega arith))

module _ (t : Table) (s : State) where
  -- what stands where a step can be taken
  taken : (x : Step) (l : List ℕ) → cond (eqb (refused_by t s (names x)) 0) l [] ≡ cond (possible t s x) l []
  taken x l = grind (arith, nat_tests)

  module _ (kind x : ℕ) (small : t.nodes ≤ 63) (below : x < t.nodes) where
    pub node_entries : of_node kind ≡ true → entries_at t s kind x ≡ cond (possible t s (node_step kind x)) (kind ∷ x ∷ 255 ∷ []) []
    unfolding reading
    node_entries e =
        rw (joined_none t.nodes (entry t s kind x) (λ y h. rw (e, ne_eqb y 255 (λ z. omega arith), and-false)))
        (rw (e, lt-ltb x t.nodes below) (taken (node_step kind x) (kind ∷ x ∷ 255 ∷ [])))

    module _ (e : of_node kind ≡ false) (f : of_link kind ≡ true) where
      pub link_entries : entries_at t s kind x ≡ joined t.nodes (entry t s kind x)
      unfolding reading
      link_entries =
          let last : entry t s kind x 255 ≡ [] = rw (e, f, le-ltb 255 t.nodes (omega arith), and-false) in
          rw last (append-nil (joined t.nodes (entry t s kind x)))

      -- the entry for y, by what a table of links has for y
      pub link_entry : (y : ℕ) (o : Option ℕ) → y < t.nodes → unwrap_or o t.links ≡ link_between t x y → ForSome o (λ k. k < t.links) → entry t s kind x y ≡ cond (may_list t s kind o x) (kind ∷ x ∷ y ∷ []) []
      unfolding reading
      link_entry y (Some i) h found real =
          rw (e, f, lt-ltb x t.nodes below, lt-ltb y t.nodes h, ← found, lt-ltb i t.links (real i refl))
          (taken (link_step kind i (direction_from t i x)) (kind ∷ x ∷ y ∷ []))
      link_entry y None h found real =
          rw (e, f, lt-ltb x t.nodes below, lt-ltb y t.nodes h, ← found, le-ltb t.links t.links (omega arith))

-- How long the list of possible steps can be: two entries for each node, two for each direction of a link.
use Prim.Native.Nat.{ℕ, zero, suc, ◌+◌, ◌*◌, ◌≤◌, ◌<◌}
use mathlib.Core.Bool.{Bool, true, false, cond, ◌&&◌, ◌||◌}
use mathlib.Core.Path.{◌≡◌, refl, sym, ap, ◌∙◌}
use mathlib.Core.Logic.{◌⊎◌, inl, inr}
use mathlib.Core.List.{List, [], ◌∷◌}
use native.Mathlib.Omega.{arith}
use native.Mathlib.Nat.{zero-mul, suc-mul, mul-zero, mul-add}
use lib.ListN.{length, length-append}
use lib.Dec.{eqb}
use Rattle.std.proofs.lemmas.Bool.Decides.{nat_tests}
use borrow.Author.Tests.{eqb-true, ne_eqb}
use Rattle.counting.specs.Count.{bit, sum, joined}
use Rattle.counting.proofs.Sums.{sum_add, sum_eq, sum_le, sum_none, sum_swap, sum_term, count_unique}
use Rattle.paper.specs.Table.{Table}
use Rattle.paper.specs.State.{State}
use Rattle.paper.specs.Steps.{add_child, acknowledge, possible}
use Rattle.paper.specs.Actions.{Reading, joins, link_between, direction_from, reading, refused_by, entry, entries_at, entries_of, listed}
use Rattle.paper.proofs.Readings.{Read, at_node, for_link, not_read, read}
use Rattle.automaton.proofs.Taken.{taken_link}

pub length_joined : (n : ℕ) (f : ℕ → List ℕ) → length (joined n f) ≡ sum n (λ i. length (f i))
unfolding joined sum
length_joined zero f = refl
length_joined (suc n) f = let below = length_joined n f in length-append (joined n f) (f n) ∙ omega arith

-- a number over and over, and a multiple of each term
pub repeated : (k n : ℕ) → sum n (λ i. k) ≡ n * k
unfolding sum
repeated k zero = sym (zero-mul k)
repeated k (suc n) = ap (λ r. r + k) (repeated k n) ∙ sym (suc-mul n k)

sum_times : (k n : ℕ) (f : ℕ → ℕ) → sum n (λ i. k * f i) ≡ k * sum n f
unfolding sum
sum_times k zero f = sym (mul-zero k)
sum_times k (suc n) f = ap (λ r. r + k * f n) (sum_times k n f) ∙ sym (mul-add k (sum n f) (f n))

-- the pairs below n that are a given pair are one at most
one_pair : (n a b : ℕ) → sum n (λ x. sum n (λ y. bit (eqb a x && eqb b y))) ≤ 1
one_pair n a b =
    let rows = sum_le n (λ x. sum n (λ y. bit (eqb a x && eqb b y))) (λ x. bit (eqb a x)) (λ x h. row (eqb a x)) in
    let column = count_unique n (λ x. eqb a x) a (λ x h e. sym (eqb-true a x e)) in
    omega arith
  where
    row : (c : Bool) → sum n (λ y. bit (c && eqb b y)) ≤ bit c
    row true = count_unique n (λ y. eqb b y) b (λ y h e. sym (eqb-true b y e))
    row false = let none = sum_none n (λ y. 0) (λ y h. refl) in omega arith

-- a link joins two pairs at most
two_pairs : (t : Table) (i n : ℕ) → sum n (λ x. sum n (λ y. bit (joins t x y i))) ≤ 2
two_pairs t i n =
    let a = t.end i false in
    let b = t.end i true in
    let first = one_pair n a b in
    let second = one_pair n a b in
    let turned = sum_swap n n (λ x y. bit (eqb a y && eqb b x)) in
    let rows =
    sum_le n (λ x. sum n (λ y. bit (joins t x y i))) (λ x. sum n (λ y. bit (eqb a x && eqb b y)) + sum n (λ y. bit (eqb a y && eqb b x)))
    (λ x h. row x)
    in
    let parts = sum_add n (λ x. sum n (λ y. bit (eqb a x && eqb b y))) (λ x. sum n (λ y. bit (eqb a y && eqb b x))) in
    omega arith
  where
    or_most : (p q : Bool) → bit (p || q) ≤ bit p + bit q
    or_most p q = grind arith

    row : (x : ℕ) → sum n (λ y. bit (joins t x y i)) ≤ sum n (λ y. bit (eqb (t.end i false) x && eqb (t.end i true) y)) + sum n (λ y. bit (eqb (t.end i false) y && eqb (t.end i true) x))
    row x =
        let most = sum_le n (λ y. bit (joins t x y i)) (λ y. bit (eqb (t.end i false) x && eqb (t.end i true) y) + bit (eqb (t.end i false) y && eqb (t.end i true) x)) (λ y h. or_most (eqb (t.end i false) x && eqb (t.end i true) y) (eqb (t.end i false) y && eqb (t.end i true) x)) in
        let parts = sum_add n (λ y. bit (eqb (t.end i false) x && eqb (t.end i true) y)) (λ y. bit (eqb (t.end i false) y && eqb (t.end i true) x)) in
        omega arith

module _ (t : Table) (s : State) where
  -- kind 2 wants the target of its direction to wait, kind 3 wants it not to
  waits_or_not : (i : ℕ) (b : Bool) → possible t s (add_child i b) ≡ true → possible t s (acknowledge i b) ≡ true → ⊥
  unfolding possible
  waits_or_not i b e f = grind (arith, nat_tests)

  -- for the same two nodes both kinds name the same direction, so not both can be taken
  not_both : (x y : ℕ) → refused_by t s (reading t 2 x y) ≡ 0 → refused_by t s (reading t 3 x y) ≡ 0 → ⊥
  not_both x y e f =
      let i = link_between t x y in
      waits_or_not i (direction_from t i x) (taken_link t s 2 x y refl e).may (taken_link t s 3 x y refl f).may

  -- an action of kind 1 or 5 that can be taken has y 255
  node_second : (kind x y : ℕ) → (kind ≡ 1) ⊎ (kind ≡ 5) → refused_by t s (reading t kind x y) ≡ 0 → y ≡ 255
  node_second kind x y node = go (read t kind x y) node
    where
      go : {r : Reading} → Read t kind x y r → (kind ≡ 1) ⊎ (kind ≡ 5) → refused_by t s r ≡ 0 → y ≡ 255
      go (at_node n h f) k e = f
      go (for_link low high h g i l f) (inl k) e = absurd (omega arith)
      go (for_link low high h g i l f) (inr k) e = absurd (omega arith)
      go (not_read number) k e = absurd (omega arith)

  -- one of kind 2 to 4 names a link that joins x and y
  link_joined : (kind x y : ℕ) → 2 ≤ kind → kind ≤ 4 → refused_by t s (reading t kind x y) ≡ 0 → (y < t.nodes) × ((i : ℕ) × (i < t.links) × (joins t x y i ≡ true))
  link_joined kind x y low high = go (read t kind x y)
    where
      go : {r : Reading} → Read t kind x y r → refused_by t s r ≡ 0 → (y < t.nodes) × ((i : ℕ) × (i < t.links) × (joins t x y i ≡ true))
      go (at_node (inl k) h f) e = absurd (omega arith)
      go (at_node (inr k) h f) e = absurd (omega arith)
      go (for_link a b h g i l f) e = (g, (i, l, f))
      go (not_read number) e = absurd (omega arith)

  -- an entry is there or not
  entry_most : (kind x y : ℕ) → length (entry t s kind x y) ≤ 3
  entry_most kind x y = grind arith

  entry_none : (kind x y : ℕ) → (refused_by t s (reading t kind x y) ≡ 0 → ⊥) → length (entry t s kind x y) ≡ 0
  entry_none kind x y h = rw (ne_eqb (refused_by t s (reading t kind x y)) 0 h)

  -- three bytes at most for each link that joins x and y
  entry_joined : (kind x y : ℕ) → 2 ≤ kind → kind ≤ 4 → length (entry t s kind x y) ≤ sum t.links (λ i. 3 * bit (joins t x y i))
  entry_joined kind x y low high = go (eqb (refused_by t s (reading t kind x y)) 0) refl
    where
      go : (b : Bool) → eqb (refused_by t s (reading t kind x y)) 0 ≡ b → length (cond b (kind ∷ x ∷ y ∷ []) []) ≤ sum t.links (λ i. 3 * bit (joins t x y i))
      go true e =
          let w = (link_joined kind x y low high (eqb-true _ _ e)).1 in
          let most = sum_term t.links (λ i. 3 * bit (joins t x y i)) w.0 w.1 in
          let here = ap bit w.2 in
          omega arith
      go false e = omega arith

  -- and so for kinds 2 and 3 together
  pair_joined : (x y : ℕ) → length (entry t s 2 x y) + length (entry t s 3 x y) ≤ sum t.links (λ i. 3 * bit (joins t x y i))
  pair_joined x y = grind (arith, nat_tests, entry_none 3 x y, entry_none 2 x y, not_both x y, entry_joined 2 x y (omega arith) (omega arith), entry_joined 3 x y (omega arith) (omega arith))

  -- three bytes at most for each link that joins a pair are six at most for each link, over all pairs
  joined_most : (f : ℕ → ℕ → ℕ) → ((x y : ℕ) → f x y ≤ sum t.links (λ i. 3 * bit (joins t x y i))) → sum t.nodes (λ x. sum t.nodes (f x)) ≤ 6 * t.links
  joined_most f h =
      let n = t.nodes in
      let m = t.links in
      let rows = sum_le n (λ x. sum n (f x)) (λ x. sum n (λ y. sum m (joint x y))) (λ x l. sum_le n (f x) (λ y. sum m (joint x y)) (λ y k. h x y)) in
      let inner = sum_eq n (λ x. sum n (λ y. sum m (joint x y))) (λ x. sum m (λ i. sum n (λ y. joint x y i))) (λ x l. sum_swap n m (joint x)) in
      let outer = sum_swap n m (λ x i. sum n (λ y. joint x y i)) in
      let links = sum_le m (λ i. sum n (λ x. sum n (λ y. joint x y i))) (λ i. 6) (λ i l. link i) in
      let most = repeated 6 m in
      omega arith
    where
      joint : ℕ → ℕ → ℕ → ℕ
      joint x y i = 3 * bit (joins t x y i)

      link : (i : ℕ) → sum t.nodes (λ x. sum t.nodes (λ y. joint x y i)) ≤ 6
      link i =
          let inner = sum_eq t.nodes (λ x. sum t.nodes (λ y. joint x y i)) (λ x. 3 * sum t.nodes (λ y. bit (joins t x y i))) (λ x h. sum_times 3 t.nodes (λ y. bit (joins t x y i))) in
          let outer = sum_times 3 t.nodes (λ x. sum t.nodes (λ y. bit (joins t x y i))) in
          let two = two_pairs t i t.nodes in
          omega arith

  module _ (small : t.nodes ≤ 63) where
    node_entries : (kind : ℕ) → (kind ≡ 1) ⊎ (kind ≡ 5) → length (entries_of t s kind) ≤ 3 * t.nodes
    node_entries kind node =
        let whole = length_joined t.nodes (entries_at t s kind) in
        let rows = sum_le t.nodes (λ x. length (entries_at t s kind x)) (λ x. 3) (λ x h. row x) in
        let most = repeated 3 t.nodes in
        omega arith
      where
        row : (x : ℕ) → length (entries_at t s kind x) ≤ 3
        row x =
            let both = length-append (joined t.nodes (entry t s kind x)) (entry t s kind x 255) in
            let low = length_joined t.nodes (entry t s kind x) in
            let none = sum_none t.nodes (λ y. length (entry t s kind x y)) (λ y h. entry_none kind x y (λ e. let f = node_second kind x y node e in omega arith)) in
            let last = entry_most kind x 255 in
            omega arith

    -- kinds 2 to 4 have their entries at the pairs of nodes alone
    link_entries : (kind : ℕ) → 2 ≤ kind → kind ≤ 4 → length (entries_of t s kind) ≡ sum t.nodes (λ x. sum t.nodes (λ y. length (entry t s kind x y)))
    link_entries kind low high =
        length_joined t.nodes (entries_at t s kind)
        ∙ sum_eq t.nodes (λ x. length (entries_at t s kind x)) (λ x. sum t.nodes (λ y. length (entry t s kind x y))) (λ x h. row x)
      where
        row : (x : ℕ) → length (entries_at t s kind x) ≡ sum t.nodes (λ y. length (entry t s kind x y))
        row x =
            let both = length-append (joined t.nodes (entry t s kind x)) (entry t s kind x 255) in
            let inside = length_joined t.nodes (entry t s kind x) in
            let last = entry_none kind x 255 (λ e. let below = (link_joined kind x 255 low high e).0 in omega arith) in
            omega arith

    two_three : length (entries_of t s 2) + length (entries_of t s 3) ≤ 6 * t.links
    two_three =
        let n = t.nodes in
        let two = link_entries 2 (omega arith) (omega arith) in
        let three = link_entries 3 (omega arith) (omega arith) in
        let rows = sum_add n (λ x. sum n (λ y. length (entry t s 2 x y))) (λ x. sum n (λ y. length (entry t s 3 x y))) in
        let cells = sum_eq n (λ x. sum n (λ y. length (entry t s 2 x y) + length (entry t s 3 x y))) (λ x. sum n (λ y. length (entry t s 2 x y)) + sum n (λ y. length (entry t s 3 x y))) (λ x h. sum_add n (λ y. length (entry t s 2 x y)) (λ y. length (entry t s 3 x y))) in
        let most = joined_most (λ x y. length (entry t s 2 x y) + length (entry t s 3 x y)) pair_joined in
        omega arith

    -- three bytes a step: 6 for a node, 12 for a link
    pub listed_most : length (listed t s) ≤ 6 * t.nodes + 12 * t.links
    unfolding listed sum
    listed_most =
        let whole = length_joined 5 (λ k. entries_of t s (suc k)) in
        let one = node_entries 1 (inl refl) in
        let pairs = two_three in
        let at-four = link_entries 4 (omega arith) (omega arith) in
        let four = joined_most (λ x y. length (entry t s 4 x y)) (λ x y. entry_joined 4 x y (omega arith) (omega arith)) in
        let five = node_entries 5 (inr refl) in
        omega arith

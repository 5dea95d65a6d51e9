-- What it says that a step is possible, kind by kind.
use Prim.Native.Nat.{ℕ, ◌≤◌, ◌<◌}
use mathlib.Core.Bool.{Bool, true, false, not, ◌&&◌, and-eq-true_iff}
use mathlib.Core.Path.{◌≡◌}
use lib.Dec.{ltb, leb, eqb}
use borrow.Author.Tests.{ltb-true, leb-true, eqb-true, not-true}
use Rattle.paper.specs.Table.{Table, source, target}
use Rattle.paper.specs.State.{State}
use Rattle.paper.specs.Steps.{unheard, carries, children_known, add_child, acknowledge, resolve, become_root, possible}

-- a number below a bound, and two tests
three : (k n : ℕ) (a b : Bool) → ltb k n && (a && b) ≡ true → (k < n) × (a ≡ true) × (b ≡ true)
three k n a b h =
    let first = (and-eq-true_iff (ltb k n) (a && b)).0 h in
    let rest = (and-eq-true_iff a b).0 first.1 in
    (ltb-true k n first.0, rest.0, rest.1)

module _ (t : Table) (s : State) where
  pub children_known_possible : (x : ℕ) → possible t s (children_known x) ≡ true → (x < t.nodes) × (s.waiting x ≡ true) × (unheard t s x ≤ 1)
  unfolding possible
  children_known_possible x h =
      let all = three x t.nodes (s.waiting x) (leb (unheard t s x) 1) h in
      (all.0, all.1, leb-true (unheard t s x) 1 all.2)

  pub add_child_possible : (i : ℕ) (b : Bool) → possible t s (add_child i b) ≡ true → (i < t.links) × (s.waiting (target t i b) ≡ true) × (carries (s.message i b) ≡ true)
  unfolding possible
  add_child_possible i b h = three i t.links (s.waiting (target t i b)) (carries (s.message i b)) h

  pub acknowledge_possible : (i : ℕ) (b : Bool) → possible t s (acknowledge i b) ≡ true → (i < t.links) × (s.waiting (target t i b) ≡ false) × (carries (s.message i b) ≡ true)
  unfolding possible
  acknowledge_possible i b h =
      let all = three i t.links (not (s.waiting (target t i b))) (carries (s.message i b)) h in
      (all.0, not-true (s.waiting (target t i b)) all.1, all.2)

  pub resolve_possible : (i : ℕ) (b : Bool) → possible t s (resolve i b) ≡ true → (i < t.links) × (s.contending (source t i b) ≡ true) × (s.contending (target t i b) ≡ true)
  unfolding possible
  resolve_possible i b h = three i t.links (s.contending (source t i b)) (s.contending (target t i b)) h

  pub become_root_possible : (x : ℕ) → possible t s (become_root x) ≡ true → (x < t.nodes) × (s.root x ≡ false) × (unheard t s x ≡ 0)
  unfolding possible
  become_root_possible x h =
      let all = three x t.nodes (not (s.root x)) (eqb (unheard t s x) 0) h in
      (all.0, not-true (s.root x) all.1, eqb-true (unheard t s x) 0 all.2)

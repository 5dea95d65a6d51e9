-- The count of unheard directions: it never rises where child marks are only added, and a count of at most one leaves room for one such direction.
use Prim.Native.Nat.{ℕ, ◌≤◌, ◌<◌}
use mathlib.Core.Bool.{Bool, true, false, not, ◌&&◌, and-eq-true_iff}
use mathlib.Core.Path.{◌≡◌, ap}
use native.Mathlib.Omega.{arith}
use lib.Dec.{eqb}
use borrow.Author.Tests.{eq-eqb, not-true}
use Rattle.paper.specs.Table.{Table, target}
use Rattle.paper.specs.State.{State}
use Rattle.paper.specs.Steps.{unheard}
use Rattle.counting.proofs.Booleans.{clash}
use Rattle.election.proofs.Updates.{fails, passes, Same}
use Rattle.election.proofs.Directions.{directions_le, directions_one, directions_two}

-- the test that unheard counts: a direction into x that lacks child
abbrev lacks : Table → State → ℕ → ℕ → Bool → Bool
lacks t s x i b = eqb (target t i b) x && not (s.child i b)

module _ (t : Table) (s : State) (x : ℕ) where
  lacking : (i : ℕ) (b : Bool) → target t i b ≡ x → s.child i b ≡ false → lacks t s x i b ≡ true
  lacking i b into e = (and-eq-true_iff (eqb (target t i b) x) (not (s.child i b))).1 (eq-eqb (target t i b) x into, rw e)

  -- none unheard: every direction into x is child
  pub all_child : unheard t s x ≡ 0 → (i : ℕ) (b : Bool) → i < t.links → target t i b ≡ x → s.child i b ≡ true
  all_child none i b lt into =
      passes (s.child i b)
      (λ e. let one = directions_one t (lacks t s x) i b lt (lacking i b into e) in omega arith)

  -- at most one unheard: every direction into x but that one is child
  pub others_child : unheard t s x ≤ 1 → (i : ℕ) (b : Bool) → i < t.links → target t i b ≡ x → s.child i b ≡ false → (j : ℕ) (c : Bool) → j < t.links → target t j c ≡ x → (Same i b j c → ⊥) → s.child j c ≡ true
  others_child one i b li into e j c lj into' n =
      passes (s.child j c)
      (λ e'.
      let two = directions_two t (lacks t s x) i b j c li lj (lacking i b into e) (lacking j c into' e') n in
      omega arith)

-- child marks are only added: unheard never rises
pub unheard_le : (t : Table) (s s' : State) (x : ℕ) → ((i : ℕ) (b : Bool) → i < t.links → s.child i b ≡ true → s'.child i b ≡ true) → unheard t s' x ≤ unheard t s x
unheard_le t s s' x kept =
    directions_le
    t
    (lacks t s' x)
    (lacks t s x)
    (λ i b lt h.
    let both = (and-eq-true_iff (eqb (target t i b) x) (not (s'.child i b))).0 h in
    (and-eq-true_iff
    (eqb (target t i b) x)
    (not (s.child i b))
    ).1
    (both.0, ap not (fails (s.child i b) (λ c. clash (kept i b lt c) (not-true (s'.child i b) both.1)))))

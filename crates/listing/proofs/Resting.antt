-- No step of kind 4 goes from a node that does not contend.
use Prim.Native.Nat.{ℕ}
use mathlib.Core.Bool.{Bool, true, false}
use mathlib.Core.List.{[]}
use mathlib.Core.Path.{◌≡◌}
use mathlib.Core.Logic.{inl, inr}
use native.Mathlib.Omega.{arith}
use Rattle.std.proofs.lemmas.Bool.Decides.{nat_tests}
use borrow.Author.Tests.{ne_eqb}
use Rattle.paper.specs.Table.{Table, source}
use Rattle.paper.specs.State.{State}
use Rattle.paper.specs.Steps.{possible, resolve}
use Rattle.paper.specs.Actions.{Reading, names, joins, direction_from, reading, refused_by, entry, entries_at}
use Rattle.paper.proofs.Readings.{Read, at_node, for_link, not_read, read}
use Rattle.listing.proofs.Entries.{joined_none}

-- the direction of a link of x that comes from x
from_x : (t : Table) (x y i : ℕ) → joins t x y i ≡ true → source t i (direction_from t i x) ≡ x
from_x t x y i e = grind (arith, nat_tests)

module _ (t : Table) (s : State) (x : ℕ) (rests : s.contending x ≡ false) where
  resolves_not : (i : ℕ) (b : Bool) → source t i b ≡ x → refused_by t s (names (resolve i b)) ≡ 0 → ⊥
  unfolding possible
  resolves_not i b e h = grind (arith, nat_tests)

  refused_from : (y : ℕ) → refused_by t s (reading t 4 x y) ≡ 0 → ⊥
  refused_from y = go (read t 4 x y)
    where
      go : {r : Reading} → Read t 4 x y r → refused_by t s r ≡ 0 → ⊥
      go (at_node (inl k) h f) e = absurd (omega arith)
      go (at_node (inr k) h f) e = absurd (omega arith)
      go (for_link low high h g i l f) e = resolves_not i (direction_from t i x) (from_x t x y i f) e
      go (not_read number) e = absurd (omega arith)

  no_entry : (y : ℕ) → entry t s 4 x y ≡ []
  no_entry y = rw (ne_eqb (refused_by t s (reading t 4 x y)) 0 (refused_from y))

  pub none_of_four : entries_at t s 4 x ≡ []
  none_of_four = rw (joined_none t.nodes (entry t s 4 x) (λ y h. no_entry y), no_entry 255)

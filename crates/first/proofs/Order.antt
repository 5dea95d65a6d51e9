-- The first of the possible steps of some kinds, among more kinds.
use Rattle.std.proofs.Common.{ℕ, suc, ◌≤◌, true, false, not, ◌≡◌, arith}
use native.Mathlib.Decide.{dec_le}
use Rattle.counting.proofs.Booleans.{clash}
use Rattle.paper.specs.Table.{Table, EndsBelow}
use Rattle.paper.specs.State.{State}
use Rattle.paper.specs.Steps.{Step, children_known, add_child, acknowledge, resolve, become_root, possible}
use Rattle.paper.specs.Meanings.{kind_of, first_of, second_of}
use Rattle.paper.proofs.Changes.{InTable, possible_in_table}
use Rattle.first.specs.Least.{rank, NoneOf, First}

-- what holds of the steps of kinds to mid and of those behind
either_side : {low mid high : ℕ} (P : Step → Type 0) → ((y : Step) → low ≤ kind_of y → kind_of y ≤ mid → P y) → ((y : Step) → suc mid ≤ kind_of y → kind_of y ≤ high → P y) → (y : Step) → low ≤ kind_of y → kind_of y ≤ high → P y
either_side {low} {mid} {high} P before behind y from to = go (dec_le (kind_of y) mid)
  where
    go : Dec (kind_of y ≤ mid) → P y
    go (yes h) = before y from h
    go (no h) = behind y (omega arith) to

module _ {t : Table} {s : State} {low mid high : ℕ} where
  -- none to mid, and none behind
  pub none_behind : NoneOf t s low mid → NoneOf t s (suc mid) high → NoneOf t s low high
  none_behind before behind = record { none = either_side (λ y. possible t s y ≡ false) before.none behind.none }

  -- none to mid, and the first behind
  pub first_behind : {x : Step} → low ≤ suc mid → NoneOf t s low mid → First t s (suc mid) high x → First t s low high x
  first_behind {x} less before first =
      record {
        may = first.may;
        from = omega (arith, first.from);
        to = first.to;
        least = either_side (λ y. possible t s y ≡ true → rank t x ≤ rank t y) (λ y from to may. clash may (before.none y from to)) first.least;
      }

  -- the first to mid is the first of more kinds
  pub first_before : {x : Step} → t.nodes ≤ 63 → EndsBelow t → mid ≤ high → First t s low mid x → First t s low high x
  first_before {x} small ends more first =
      record {
        may = first.may;
        from = first.from;
        to = omega (arith, first.to);
        least = either_side (λ y. possible t s y ≡ true → rank t x ≤ rank t y) first.least (λ y from to may. omega (arith, own.0, own.1, first.to));
      }
    where
      -- the second and third byte of a step of the table
      bytes : (z : Step) → InTable t z → (first_of t z ≤ 255) × (second_of t z ≤ 255)
      bytes (children_known z) h = (omega arith, omega arith)
      bytes (add_child i b) h = (omega (arith, ends i b h), omega (arith, ends i (not b) h))
      bytes (acknowledge i b) h = (omega (arith, ends i b h), omega (arith, ends i (not b) h))
      bytes (resolve i b) h = (omega (arith, ends i b h), omega (arith, ends i (not b) h))
      bytes (become_root z) h = (omega arith, omega arith)

      own : (first_of t x ≤ 255) × (second_of t x ≤ 255)
      own = bytes x (possible_in_table t s x first.may)

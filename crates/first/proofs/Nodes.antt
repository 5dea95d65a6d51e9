-- The first step of a kind at a node, from the least node where it is possible.
use Rattle.std.proofs.Common.{ℕ, ◌<◌, ◌≤◌, Bool, true, Option, None, Some, MatchOption, ◌≡◌, arith}
use Rattle.std.proofs.lemmas.Bool.{false_from_ne_true}
use mathlib.Core.Path.{subst⁻¹}
use native.Mathlib.Decide.{dec_lt}
use Rattle.counting.proofs.Booleans.{clash}
use Rattle.counting.proofs.Ranges.{FirstBelow}
use Rattle.counting.proofs.Tests.{some_holds}
use Rattle.paper.specs.Table.{Table}
use Rattle.paper.specs.State.{State}
use Rattle.paper.specs.Steps.{possible}
use Rattle.paper.proofs.Changes.{possible_in_table}
use Rattle.upload.specs.Kinds.{node_number}
use Rattle.upload.specs.declared.step.NodeKind.{NodeKind}
use Rattle.upload.specs.declared.step.Step.{Step}
use Rattle.upload.specs.declared.step.Step.TheVariants.{Node}
use Rattle.first.specs.Least.{rank, Least}
use Rattle.first.proofs.OfKind.{at, at_kind, at_rank, at_inside, at_all}

module _ (t : Table) (s : State) (kind : NodeKind) where
  -- the step is possible at a node
  abbrev pub may_at : ℕ → Bool
  may_at x = possible t s (at kind x)

  pub least_at_nodes : (o : Option ℕ) (r : Option Step) →
      FirstBelow may_at t.nodes o →
      MatchOption o (r ≡ None) (λ x. r ≡ Some (Node kind x)) →
      Least t s (node_number kind) (node_number kind) r
  least_at_nodes None r h e =
      subst⁻¹ (Least t s (node_number kind) (node_number kind)) e
      (record { none = λ y from to. false_from_ne_true (possible t s y) (at_all (λ z. possible t s z ≡ true → ⊥) kind none y (omega arith)) })
    where
      none : (x : ℕ) → may_at x ≡ true → ⊥
      none x m = clash (some_holds t.nodes may_at x (at_inside t kind x (possible_in_table t s (at kind x) m)) m) h
  least_at_nodes (Some x) r h e =
      subst⁻¹ (Least t s (node_number kind) (node_number kind)) e
      (record {
        may = h.1;
        from = omega (arith, at_kind kind x);
        to = omega (arith, at_kind kind x);
        least = λ y from to. at_all (λ z. possible t s z ≡ true → rank t (at kind x) ≤ rank t z) kind (λ z m. least z m (dec_lt z x)) y (omega arith);
      })
    where
      least : (z : ℕ) → may_at z ≡ true → Dec (z < x) → rank t (at kind x) ≤ rank t (at kind z)
      least z m (yes f) = clash (some_holds x may_at z f m) h.2
      least z m (no f) = omega (arith, at_rank t kind x, at_rank t kind z)

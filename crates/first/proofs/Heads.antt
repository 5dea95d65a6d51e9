-- The first of all possible steps is the one with which the list begins.
use Rattle.std.proofs.Common.{ℕ, suc, ◌≤◌, true, List, [], ◌∷◌, Option, None, Some, ◌≡◌, refl, ◌∙◌, inl, inr, arith}
use mathlib.Core.Path.{subst⁻¹}
use Rattle.std.proofs.lemmas.Bool.{false_from_ne_true}
use Rattle.counting.proofs.Booleans.{clash}
use Rattle.paper.specs.Table.{Table}
use Rattle.paper.specs.State.{State}
use Rattle.paper.specs.Steps.{Step as Taken, children_known, add_child, acknowledge, resolve, become_root, possible}
use Rattle.paper.specs.Report.{moving}
use Rattle.paper.specs.Actions.{Reading, names, direction_from, node_step, link_step, reading, refused_by, listed}
use Rattle.paper.specs.Meanings.{kind_of, first_of, second_of, Stands, three, Ascending, ListsSteps}
use Rattle.paper.proofs.Kept.{possible_taken}
use Rattle.paper.proofs.Listed.{lists_steps}
use Rattle.paper.proofs.Moving.{moving_step}
use Rattle.paper.proofs.Readings.{Read, at_node, for_link, not_read, read}
use Rattle.upload.specs.Kinds.{meant}
use Rattle.upload.specs.declared.step.Step.{Step}
use Rattle.first.specs.Leads.{Begins, Leads}
use Rattle.marks.specs.Shown.{table, shown}
use Rattle.marks.specs.declared.View.{View}
use Rattle.first.specs.Least.{NoneOf, First, Least}
use Rattle.first.proofs.Order.{none_behind, first_behind, first_before}

-- the five kinds are all
kinds : (y : Taken) → (1 ≤ kind_of y) × (kind_of y ≤ 5)
kinds (children_known x) = (omega arith, omega arith)
kinds (add_child i b) = (omega arith, omega arith)
kinds (acknowledge i b) = (omega arith, omega arith)
kinds (resolve i b) = (omega arith, omega arith)
kinds (become_root x) = (omega arith, omega arith)

-- an action that can be taken names a step that is possible
named : (t : Table) (s : State) (kind a b : ℕ) → refused_by t s (reading t kind a b) ≡ 0 → (y : Taken) × (reading t kind a b ≡ names y) × (possible t s y ≡ true)
named t s kind a b = go (read t kind a b)
  where
    go : {r : Reading} → Read t kind a b r → refused_by t s r ≡ 0 → (y : Taken) × (r ≡ names y) × (possible t s y ≡ true)
    go (at_node node h f) e = (node_step kind a, refl, possible_taken t s _ e)
    go (for_link low high h g i inside f) e = (link_step kind i (direction_from t i a), refl, possible_taken t s _ e)
    go (not_read number) e = absurd (omega arith)

-- what stands in an ascending list stands at its low end or behind
stands_from : (low high : ℕ) (l : List ℕ) (kind x y : ℕ) → Ascending low high l → Stands kind x y l → low ≤ three kind x y
stands_from low high [] kind x y h p = absurd p
stands_from low high (a ∷ []) kind x y h p = absurd p
stands_from low high (a ∷ b ∷ []) kind x y h p = absurd p
stands_from low high (a ∷ b ∷ c ∷ rest) kind x y h (inl p) = omega (arith, h.0, p.0, p.1, p.2)
stands_from low high (a ∷ b ∷ c ∷ rest) kind x y h (inr p) = omega (arith, h.0, stands_from (suc (three a b c)) high rest kind x y h.1 p)

module _ (t : Table) (s : State) (lists : ListsSteps t s) where
  begins : (x : Taken) → First t s 1 5 x → Begins t (listed t s) x
  begins x first = go (listed t s) refl lists.ascending (lists.every x first.may).0
    where
      go : (l : List ℕ) → listed t s ≡ l → Ascending (three 1 0 0) (three 6 0 0) l → Stands (kind_of x) (first_of t x) (second_of t x) l → Begins t (listed t s) x
      go [] e h p = absurd p
      go (a ∷ []) e h p = absurd p
      go (a ∷ b ∷ []) e h p = absurd p
      go (a ∷ b ∷ c ∷ rest) e h (inl p) =
          record { rest = rest; begins = e ∙ (λ j. p.0 j ∷ p.1 j ∷ p.2 j ∷ rest); reads = (lists.every x first.may).1 }
      go (a ∷ b ∷ c ∷ rest) e h (inr p) =
          let here = named t s a b c ((lists.exactly a b c).0 (subst⁻¹ (Stands a b c) e (inl (refl, refl, refl)))) in
          let own = lists.once here.0 a b c here.1 in
          let least = first.least here.0 (kinds here.0).0 (kinds here.0).1 here.2 in
          let behind = stands_from (suc (three a b c)) (three 6 0 0) rest (kind_of x) (first_of t x) (second_of t x) h.1 p in
          absurd (omega (arith, own.0, own.1, own.2, least, behind))

  none_listed : NoneOf t s 1 5 → listed t s ≡ []
  none_listed h = lists.empty.1 (false_from_ne_true (moving t s) (λ e. let found = moving_step t s e in clash found.1 (h.none found.0 (kinds found.0).0 (kinds found.0).1)))

module _ (v : View) where
  lists : ListsSteps (table v) (shown v)
  lists =
      let passes = v.cabling.passes in
      lists_steps (table v) (shown v) (omega (arith, passes.nodes_fit)) passes.ends passes.no_self passes.no_repeat

  -- the first of the kinds to high, which lie before the others
  pub heads : (x : Step) {high : ℕ} → high ≤ 5 → First (table v) (shown v) 1 high (meant x) → Leads (table v) (listed (table v) (shown v)) (Some x)
  heads x more first =
      begins (table v) (shown v) lists (meant x) (first_before v.cabling.passes.nodes_fit v.cabling.passes.ends more first)

  -- the step found last, or none
  pub leads : (r : Option Step) → NoneOf (table v) (shown v) 1 4 → Least (table v) (shown v) 5 5 r → Leads (table v) (listed (table v) (shown v)) r
  leads None before last = none_listed (table v) (shown v) lists (none_behind before last)
  leads (Some x) before last = heads x (omega arith) (first_behind (omega arith) before last)

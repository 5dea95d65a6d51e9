-- Full nodes and bare links: never two of them, and none on a table with a loop.
use Prim.Native.Nat.{ℕ, ◌+◌, ◌<◌}
use mathlib.Core.Bool.{true, false, not, ◌&&◌, and-eq-true_iff}
use mathlib.Core.Path.{◌≡◌, ap, sym, ◌∙◌}
use mathlib.Core.Logic.{◌⊎◌, inl, inr}
use native.Mathlib.Omega.{arith}
use native.Mathlib.Decide.{ℕ_discrete}
use borrow.Author.Tests.{eqb-true}
use Rattle.counting.specs.Count.{count, bit}
use Rattle.counting.proofs.Sums.{sum_eq, Found, find, count_none, count_not, count_zero, count_some, count_unique}
use Rattle.paper.specs.Table.{Table, EndsBelow, NoSelfLink}
use Rattle.paper.specs.State.{State}
use Rattle.paper.specs.Steps.{unheard}
use Rattle.paper.specs.Report.{waiting_count}
use Rattle.election.specs.Local.{Local}
use Rattle.election.proofs.Updates.{fails, passes, either}
use Rattle.election.proofs.Balance.{bare, is_full, full_stopped, balance}
use Rattle.election.proofs.Pieces.{linked}
use Rattle.election.proofs.Peeling.{Peeled, waiting_unheard}

-- how many nodes are full
abbrev pub full : Table → State → ℕ
full t s = count t.nodes (is_full t s)

-- one full node or bare link is left, and the table has no loop
abbrev pub OneLeft : Table → State → Type 0
OneLeft t s = (full t s + bare t s ≡ 1) × (t.links + 1 ≡ t.nodes)

-- that, or none is left
abbrev pub Left : Table → State → Type 0
Left t s = (full t s + bare t s ≡ 0) ⊎ OneLeft t s

module _ (t : Table) (s : State) (below : EndsBelow t) (apart : NoSelfLink t) (local : Local t s) (peeled : Peeled t s.waiting) where
  -- no node waits
  pub nobody : waiting_count t s ≡ 0 → OneLeft t s
  nobody z =
      let a = count_none t.links (λ i. s.waiting (t.end i false) && s.waiting (t.end i true)) (λ i l. ap (λ p. p && s.waiting (t.end i true)) (stops (t.end i false) (below i false l))) in
      let b = count_not t.nodes s.waiting in
      let c = balance t s below local in
      let d = sum_eq t.nodes (λ x. bit (not (s.waiting x) && is_full t s x)) (λ x. bit (is_full t s x)) (λ x l. ap (λ p. bit (not p && is_full t s x)) (stops x l)) in
      let e = peeled.none z in (omega arith, e)
    where
      stops : (x : ℕ) → x < t.nodes → s.waiting x ≡ false
      stops = count_zero t.nodes s.waiting z

  -- a full node that waits is the only one that waits
  only : (x : ℕ) → x < t.nodes → s.waiting x ≡ true → is_full t s x ≡ true → (y : ℕ) → y < t.nodes → s.waiting y ≡ true → y ≡ x
  only x l w f y m v =
      either (ℕ_discrete y x) (λ e. e)
      (λ d.
      let a = linked t s.waiting x peeled.piece l w y m v d in
      let b = waiting_unheard t s local x in
      let c = eqb-true (unheard t s x) 0 f in absurd (omega arith))

  -- some node waits
  somebody : 0 < waiting_count t s → Left t s
  somebody p = go (find t.nodes (is_full t s))
    where
      nothing : bare t s + full_stopped t s ≡ 0
      nothing =
          let b = count_not t.nodes s.waiting in
          let c = balance t s below local in
          let e = peeled.some p in omega arith

      -- a full node waits
      waits : (x : ℕ) → x < t.nodes → is_full t s x ≡ true → s.waiting x ≡ true
      waits x l f =
          passes (s.waiting x)
          (λ e.
          let c = count_some t.nodes (λ y. not (s.waiting y) && is_full t s y) x l ((and-eq-true_iff (not (s.waiting x)) (is_full t s x)).1 (ap not e, f)) in
          omega (arith, nothing))

      go : Found t.nodes (is_full t s) → Left t s
      go (inr none) = let a = count_none t.nodes (is_full t s) none in inl (omega (arith, nothing))
      go (inl f) =
          let a = count_unique t.nodes s.waiting f.0 alone in
          let b = count_unique t.nodes (is_full t s) f.0 (λ y l g. alone y l (waits y l g)) in
          let c = count_some t.nodes (is_full t s) f.0 f.1 f.2 in
          let d = count_none t.links (λ i. s.waiting (t.end i false) && s.waiting (t.end i true)) outside in
          let e = peeled.some p in inr (omega (arith, nothing), omega arith)
        where
          alone : (y : ℕ) → y < t.nodes → s.waiting y ≡ true → y ≡ f.0
          alone = only f.0 f.1 (waits f.0 f.1 f.2) f.2

          outside : (i : ℕ) → i < t.links → (s.waiting (t.end i false) && s.waiting (t.end i true)) ≡ false
          outside i l =
              fails (s.waiting (t.end i false) && s.waiting (t.end i true))
              (λ e.
              let w = (and-eq-true_iff (s.waiting (t.end i false)) (s.waiting (t.end i true))).0 e in
              apart i l (alone (t.end i false) (below i false l) w.0 ∙ sym (alone (t.end i true) (below i true l) w.1)))

  pub left : Left t s
  left = either (ℕ_discrete (waiting_count t s) 0) (λ z. inr (nobody z)) (λ d. somebody (omega arith))

-- What a replay answers, case by case.
use Prim.Native.Nat.{ℕ, zero, suc, ◌≤◌}
use native.Mathlib.Omega.{arith}
use lib.ListN.{length, take, length-take, replicate, length-replicate, get_or-replicate}
use lib.Seq.{get_or-take}
use mathlib.Core.Bool.{Bool, true, false}
use mathlib.Core.Path.{◌≡◌, refl, ap, subst⁻¹, ◌∙◌}
use mathlib.Core.Logic.{inl}
use mathlib.Core.List.{List}
use lib.Dec.{eqb}
use borrow.Author.Tests.{eqb-true, eqb-false}
use Rattle.paper.specs.Upload.{byte_at, actions_of, action_at}
use Rattle.paper.specs.Table.{table_of}
use Rattle.paper.specs.State.{State, fresh}
use Rattle.paper.specs.Actions.{refused_by, state_after}
use Rattle.paper.specs.Refusals.{Refusal, accepted, table_refusal}
use Rattle.paper.specs.Calls.{refused_with, reported, answered, Replayed, action_of, replay_from, replayed, replay_behind, replay_answer}
use Rattle.image.specs.Parts.{Blank}
use Rattle.replay.proofs.Order.{table_accepted, answered_table}
use Rattle.replay.proofs.Acted.{OfAction, of_action}
use Rattle.replay.proofs.Stepped.{answered_action, first_alone}
use Rattle.replay.proofs.Folds.{replay_stops, replay_goes_on}

-- the refusal of an action, or none
pub record Proper (r : Refusal) : Type 0 where
  pub number : OfAction r.number
  pub none : r.number ≡ 0 → r ≡ accepted

proper_from : (upload : List ℕ) (s : State) (i k : ℕ) → Proper (replay_from upload s i k).refusal
unfolding replay_from
proper_from upload s i zero = record { number = inl refl; none = λ e. refl }
proper_from upload s i (suc k) =
    go (eqb number 0) refl (proper_from upload (state_after (table_of upload) s (action_of upload i)) (suc i) k)
  where
    number : ℕ
    number = refused_by (table_of upload) s (action_of upload i)

    go : (b : Bool) → eqb number 0 ≡ b → Proper (replay_from upload (state_after (table_of upload) s (action_of upload i)) (suc i) k).refusal → Proper (replay_from upload s i (suc k)).refusal
    go true e rest = subst⁻¹ (λ (w : Replayed). Proper w.refusal) (replay_goes_on upload s i k (eqb-true number 0 e)) rest
    go false e rest =
        let cannot : number ≡ 0 → ⊥ = eqb-false number 0 e in
        subst⁻¹ (λ (w : Replayed). Proper w.refusal) (replay_stops upload s i k cannot)
        (record { number = of_action (table_of upload) s (byte_at upload (action_at upload i)) _ _; none = λ q. absurd (cannot q) })

pub proper : (upload : List ℕ) → Proper (replayed upload).refusal
unfolding replayed
proper upload = proper_from upload (fresh (table_of upload)) 0 (actions_of upload)

module _ (upload : List ℕ) where
  pub replay_table : ((table_refusal upload).number ≡ 0 → ⊥) → replay_answer upload ≡ refused_with (table_refusal upload)
  unfolding replay_behind
  replay_table h =
      answered_table upload accepted (replayed upload).refusal accepted (replayed upload).steps (table_of upload) (replayed upload).state h

  pub replay_done : (table_refusal upload).number ≡ 0 → replay_answer upload ≡ reported (replayed upload).refusal (replayed upload).steps (table_of upload) (replayed upload).state
  unfolding replay_behind
  replay_done h =
      let w = replayed upload in
      ap (λ (r : Refusal). answered r w.steps (table_of upload) w.state) (table_accepted upload accepted w.refusal accepted h ∙ first_alone w.refusal (proper upload).none)
      ∙ answered_action w.refusal w.steps (table_of upload) w.state (proper upload).number

-- the first k bytes of a list of k or more
-- the other way round than std's `length-take-le`, as `taken_blank` asks for it
pub taken_length : (k : ℕ) (l : List ℕ) → k ≤ length l → k ≡ length (take k l)
taken_length k l h = simp length-take (omega arith)

-- bytes of a list of zeros, as far as it is taken
pub taken_blank : (k n : ℕ) → k ≤ n → Blank (take k (replicate n 0))
taken_blank k n h j low =
    let whole : length {A = ℕ} (replicate n 0) ≡ n = length-replicate {A = ℕ} n 0 in
    let end = taken_length k (replicate n 0) (omega arith) in
    get_or-take {A = ℕ} k (replicate n 0) j 0 (omega arith) ∙ get_or-replicate {A = ℕ} n j 0 0 (omega arith)

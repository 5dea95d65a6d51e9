-- The first listed step can be taken, and the runner takes it.
use Prim.Native.Nat.{ℕ, suc, ◌≤◌}
use mathlib.Core.Bool.{true, false, false≢true}
use mathlib.Core.Path.{◌≡◌, refl, sym, ap, subst, subst⁻¹, ◌∙◌}
use mathlib.Core.Logic.{inl}
use mathlib.Core.List.{List, [], ◌∷◌}
use native.Mathlib.Omega.{arith}
use Rattle.paper.specs.Upload.{byte_at}
use Rattle.paper.specs.Table.{Table, table_of}
use Rattle.paper.specs.State.{State}
use Rattle.paper.specs.Steps.{possible, effect}
use Rattle.paper.specs.Image.{state_of, image_of, sound}
use Rattle.paper.specs.Actions.{reading, refused_by, state_after, listed}
use Rattle.paper.specs.Meanings.{Stands, three, Ascending, kind_of, first_of, second_of}
use Rattle.paper.specs.Runner.{run_from}
use Rattle.paper.proofs.Listed.{listed_exactly, listed_ascending}
use Rattle.paper.proofs.Kept.{possible_taken}
use Rattle.upload.specs.declared.step.Step as step
use Rattle.upload.specs.Kinds.{meant}
use Rattle.marks.specs.Lent.{Lent}
use Rattle.image.proofs.Kept.{step_holds}
use Rattle.first.specs.Leads.{Begins}
use Rattle.replay.specs.Running.{Advanced}
use Rattle.replay.proofs.Folds.{run_stops, run_goes_on}

-- the head of the list can be taken
pub head_taken : (t : Table) (s : State) → t.nodes ≤ 255 → (kind : ℕ) (rest : List ℕ) → listed t s ≡ kind ∷ rest → refused_by t s (reading t kind (byte_at rest 0) (byte_at rest 1)) ≡ 0
head_taken t s bytes kind [] e = absurd (subst (Ascending (three 1 0 0) (three 6 0 0)) e (listed_ascending t s bytes))
head_taken t s bytes kind (b ∷ []) e = absurd (subst (Ascending (three 1 0 0) (three 6 0 0)) e (listed_ascending t s bytes))
head_taken t s bytes kind (b ∷ c ∷ rest) e = (listed_exactly t s kind b c).0 (subst⁻¹ (Stands kind b c) e (inl (refl, refl, refl)))

module _ (upload image : List ℕ) (lent : Lent upload image) (good : sound (table_of upload) image ≡ true) where
  -- the step with which the list begins
  module _ (x : step.Step) (w : Begins (table_of upload) (listed (table_of upload) (state_of (table_of upload) image)) (meant x)) where
    pub first_may : possible (table_of upload) (state_of (table_of upload) image) (meant x) ≡ true
    first_may =
        let t = table_of upload in
        let s = state_of t image in
        let few = lent.table.nodes_fit in
        possible_taken t s (meant x) (ap (refused_by t s) (sym w.reads) ∙ head_taken t s (omega arith) (kind_of (meant x)) (first_of t (meant x) ∷ second_of t (meant x) ∷ w.rest) w.begins)

    pub advanced : (l : List ℕ) → l ≡ image_of (table_of upload) (effect (table_of upload) (state_of (table_of upload) image) (meant x)) → Advanced upload image true l
    advanced l q =
        let t = table_of upload in
        let s = state_of t image in
        let held = step_holds upload image l (meant x) lent good first_may q in
        let next : state_after t s (reading t (kind_of (meant x)) (first_of t (meant x)) (second_of t (meant x))) ≡ state_of t l = ap (state_after t s) w.reads ∙ sym held.shows in
        record {
          lent = held.lent;
          is_sound = held.is_sound;
          goes = λ g left taken. run_goes_on t left s taken (kind_of (meant x)) (first_of t (meant x) ∷ second_of t (meant x) ∷ w.rest) w.begins ∙ ap (λ (z : State). run_from t left z (suc taken)) next;
          rests = λ g. absurd (false≢true (sym g));
        }

  pub at_rest : listed (table_of upload) (state_of (table_of upload) image) ≡ [] → Advanced upload image false image
  at_rest none =
      record {
        lent = lent;
        is_sound = good;
        goes = λ g. absurd (false≢true g);
        rests = λ g left taken. run_stops (table_of upload) left (state_of (table_of upload) image) taken none;
      }

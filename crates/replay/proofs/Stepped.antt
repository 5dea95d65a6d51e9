-- What a step answers and leaves, case by case.
use Prim.Native.Nat.{ℕ}
use mathlib.Core.Bool.{Bool, true, false, cond, ◌&&◌}
use mathlib.Core.Path.{◌≡◌, refl, sym, ap, ◌∙◌}
use mathlib.Core.Logic.{inl, inr}
use mathlib.Core.List.{List, [], ◌∷◌}
use lib.Dec.{eqb}
use borrow.Author.Tests.{eq-eqb, ne_eqb, le-leb}
use native.Mathlib.Omega.{arith}
use native.Mathlib.Decide.{ℕ_discrete}
use Rattle.counting.specs.Count.{bit}
use Rattle.paper.specs.Table.{Table, table_of}
use Rattle.paper.specs.State.{State}
use Rattle.paper.specs.Image.{image_of, state_of, fits, sound}
use Rattle.paper.specs.Actions.{reading, refused_by, state_after}
use Rattle.paper.specs.Refusals.{Refusal, accepted, first, table_refusal, image_refusal}
use Rattle.paper.specs.Calls.{refused_with, reported, answered, left, action_refusal, step_refusal, step_state, step_answer, step_image}
use Rattle.replay.specs.Taken.{Taken, next_state}
use Rattle.replay.proofs.Order.{answered_table, left_table, answered_image, left_image, refusal_behind, twelve}
use Rattle.replay.proofs.Acted.{OfAction, of_action}

-- what is accepted, or refused for an action, is answered with a report
pub answered_action : (r : Refusal) (steps : ℕ) (t : Table) (s : State) → OfAction r.number → answered r steps t s ≡ reported r steps t s
answered_action r steps t s (inl e) = rw (eq-eqb r.number 0 e)
answered_action r steps t s (inr (low, high)) =
    rw (ne_eqb r.number 0 (λ e. omega arith), le-leb 9 r.number low, le-leb r.number 11 high)

-- a refusal with nothing tried behind it
pub first_alone : (r : Refusal) → (r.number ≡ 0 → r ≡ accepted) → first (r ∷ accepted ∷ []) ≡ r
first_alone r h = go (ℕ_discrete r.number 0)
  where
    go : Dec (r.number ≡ 0) → cond (eqb r.number 0) accepted r ≡ r
    go (yes e) = rw (eq-eqb r.number 0 e) (sym (h e))
    go (no e) = rw (ne_eqb r.number 0 e)

at_zero : (number : ℕ) → action_refusal number 0 ≡ record { number = number; place = 0 }
at_zero number = go (eqb number 0)
  where
    go : (b : Bool) → ◌≡◌ {A = Refusal} (record { number = number; place = cond b 0 0 }) (record { number = number; place = 0 })
    go true = refl
    go false = refl

-- one step taken, or none
pub one_or_none : (b : Bool) → bit b ≡ cond b 1 0
one_or_none true = refl
one_or_none false = refl

same_where_taken : (b : Bool) (f : State → List ℕ) (next s : State) (image : List ℕ) → cond b (f next) image ≡ cond b (f (cond b next s)) image
same_where_taken true f next s image = refl
same_where_taken false f next s image = refl

module _ (upload image : List ℕ) (kind x y : ℕ) where
  pub step_table : ((table_refusal upload).number ≡ 0 → ⊥) → step_answer upload image kind x y ≡ refused_with (table_refusal upload)
  unfolding step_answer
  step_table h =
      answered_table upload (image_refusal (table_of upload) image) (action_refusal (refused_by (table_of upload) (state_of (table_of upload) image) (reading (table_of upload) kind x y)) 0) accepted (cond (eqb (step_refusal upload image kind x y).number 0) 1 0) (table_of upload) (step_state upload image kind x y) h

  pub step_table_left : ((table_refusal upload).number ≡ 0 → ⊥) → step_image upload image kind x y ≡ image
  unfolding step_image
  step_table_left h =
      left_table upload (image_refusal (table_of upload) image) (action_refusal (refused_by (table_of upload) (state_of (table_of upload) image) (reading (table_of upload) kind x y)) 0) accepted _ image h

  pub image_of_step : (table_refusal upload).number ≡ 0 → (fits (table_of upload) image && sound (table_of upload) image) ≡ false → step_answer upload image kind x y ≡ refused_with twelve
  unfolding step_answer
  image_of_step h g =
      answered_image upload (fits (table_of upload) image && sound (table_of upload) image) (action_refusal (refused_by (table_of upload) (state_of (table_of upload) image) (reading (table_of upload) kind x y)) 0) accepted (cond (eqb (step_refusal upload image kind x y).number 0) 1 0) (table_of upload) (step_state upload image kind x y) h g

  pub step_image_left : (table_refusal upload).number ≡ 0 → (fits (table_of upload) image && sound (table_of upload) image) ≡ false → step_image upload image kind x y ≡ image
  unfolding step_image
  step_image_left h g =
      left_image upload (fits (table_of upload) image && sound (table_of upload) image) (action_refusal (refused_by (table_of upload) (state_of (table_of upload) image) (reading (table_of upload) kind x y)) 0) accepted _ image h g

  -- on an accepted table and a sound image, a step is refused for its action alone
  pub step_tried : (table_refusal upload).number ≡ 0 → (fits (table_of upload) image && sound (table_of upload) image) ≡ true → step_refusal upload image kind x y ≡ record { number = refused_by (table_of upload) (state_of (table_of upload) image) (reading (table_of upload) kind x y); place = 0 }
  step_tried h g =
      let number = refused_by (table_of upload) (state_of (table_of upload) image) (reading (table_of upload) kind x y) in
      refusal_behind upload (fits (table_of upload) image && sound (table_of upload) image) (action_refusal number 0) accepted h g
      ∙ first_alone (action_refusal number 0) (λ e. at_zero number ∙ ap (λ (k : ℕ). record { number = k; place = 0 }) e)
      ∙ at_zero number

  -- and is answered and left by its action alone
  module _ (h : (table_refusal upload).number ≡ 0) (g : (fits (table_of upload) image && sound (table_of upload) image) ≡ true) where
    pub answer_of_step : step_answer upload image kind x y ≡ reported (record { number = refused_by (table_of upload) (state_of (table_of upload) image) (reading (table_of upload) kind x y); place = 0 }) (cond (eqb (refused_by (table_of upload) (state_of (table_of upload) image) (reading (table_of upload) kind x y)) 0) 1 0) (table_of upload) (step_state upload image kind x y)
    unfolding step_answer
    answer_of_step =
        let t = table_of upload in
        let next = step_state upload image kind x y in
        let said : Refusal = record { number = refused_by t (state_of t image) (reading t kind x y); place = 0 } in
        ap (λ (r : Refusal). answered r (cond (eqb r.number 0) 1 0) t next) (step_tried h g)
        ∙ answered_action said (cond (eqb said.number 0) 1 0) t next (of_action t (state_of t image) kind x y)

    pub step_left : step_image upload image kind x y ≡ cond (eqb (refused_by (table_of upload) (state_of (table_of upload) image) (reading (table_of upload) kind x y)) 0) (image_of (table_of upload) (state_after (table_of upload) (state_of (table_of upload) image) (reading (table_of upload) kind x y))) image
    unfolding step_image
    step_left =
        let t = table_of upload in
        ap (λ (r : Refusal). left r (image_of t (step_state upload image kind x y)) image) (step_tried h g)
        ∙ sym (same_where_taken (eqb (refused_by t (state_of t image) (reading t kind x y)) 0) (image_of t) (state_after t (state_of t image) (reading t kind x y)) (state_of t image) image)

    -- what is answered and left of an action that was tried
    module _ (number : ℕ) (after : List ℕ) (w : Taken upload image kind x y number after) where
      pub step_done : reported (record { number = number; place = 0 }) (bit (eqb number 0)) (table_of upload) (state_of (table_of upload) after) ≡ step_answer upload image kind x y
      step_done =
          let t = table_of upload in
          let next = next_state upload (state_of t image) kind x y in
          ap (reported (record { number = number; place = 0 }) (bit (eqb number 0)) t) w.holds.shows
          ∙ ap (λ (k : ℕ). reported (record { number = number; place = 0 }) k t next) (one_or_none (eqb number 0))
          ∙ ap (λ (k : ℕ). reported (record { number = k; place = 0 }) (cond (eqb k 0) 1 0) t next) w.refused
          ∙ sym answer_of_step

      pub step_done_left : after ≡ step_image upload image kind x y
      step_done_left =
          let t = table_of upload in
          w.left
          ∙ ap (λ (k : ℕ). cond (eqb k 0) (image_of t (state_after t (state_of t image) (reading t kind x y))) image) w.refused
          ∙ sym step_left

-- The order of refusals for every call: each ground gives its number at its place, and there is always one.
use Prim.Native.Nat.{ℕ, ◌≤◌}
use mathlib.Core.Bool.{Bool, true, false, cond}
use mathlib.Core.Path.{◌≡◌, refl, sym, ap, subst₂, ◌∙◌}
use mathlib.Core.Logic.{◌⊎◌, inl, inr}
use mathlib.Core.List.{List, [], ◌∷◌}
use native.Mathlib.Omega.{arith}
use Rattle.paper.specs.Table.{Table}
use Rattle.paper.specs.State.{State}
use Rattle.paper.specs.Refusals.{Refusal, accepted, given, first, Tried, refusal, table_refusal}
use Rattle.paper.specs.Calls.{refused_with, reported, has_state, answered}
use Rattle.table.proofs.Tells.{Tells, holds, fails, decided}
use Rattle.table.proofs.Order.{first_stop}
use Rattle.demands.specs.ExactlyWhen
use Rattle.demands.specs.ExactlyWhen.{Given, TableRefused, TablePasses, Tries, Inside, Ready, Ground, of_header, of_span, of_table, of_image, of_action, of_room, Exactly}
use Rattle.demands.proofs.Order.{order}
use Rattle.demands.proofs.TableGround.{table_given, table_accepted, table_either}
use Rattle.demands.proofs.Told.{tells_never}

-- a refusal is given by a number at place 0 where P holds, and isn't where it doesn't
pub record Told (r : Refusal) (number : ℕ) (P : Type 0) : Type 0 where
  pub test : Bool
  pub equal : r ≡ given test number 0
  pub tells : Tells test P

pub told : (b : Bool) (number : ℕ) {P : Type 0} → Tells b P → Told (given b number 0) number P
told b number h = record { test = b; equal = refl; tells = h }

-- what isn't tried
pub untried : (number : ℕ) → Told accepted number ⊥
untried number = told false number tells_never

stands : {r : Refusal} {number : ℕ} {P : Type 0} → Told r number P → P → r ≡ record { number = number; place = 0 }
stands {number = number} h p = h.equal ∙ ap (λ b. given b number 0) (holds h.test h.tells p)

passes : {r : Refusal} {number : ℕ} {P : Type 0} → Told r number P → (P → ⊥) → r ≡ accepted
passes {number = number} h p = h.equal ∙ ap (λ b. given b number 0) (fails h.test h.tells p)

-- the actions of a call: refused by 9 to 11 at a place on the grounds A, or all taken
pub record Acts (r : Refusal) (A : ℕ → ℕ → Type 0) (taken : Type 0) : Type 0 where
  pub refused : {number place : ℕ} → A number place → r ≡ record { number = number; place = place }
  pub range : {number place : ℕ} → A number place → (9 ≤ number) × (number ≤ 11)
  pub within : {number place : ℕ} → A number place → place ≤ 1023
  pub passed : taken → r ≡ accepted
  pub either : taken ⊎ ((number : ℕ) × (place : ℕ) × A number place)

-- 3 to 8
pub table_number : {upload : List ℕ} {number place : ℕ} → TableRefused upload number place → (3 ≤ number) × (number ≤ 8)
table_number (ExactlyWhen.wrong_length h) = (omega arith, omega arith)
table_number (ExactlyWhen.out_of_range l h) = (omega arith, omega arith)
table_number (ExactlyWhen.names_no_node r h) = (omega arith, omega arith)
table_number (ExactlyWhen.joins_itself r n h) = (omega arith, omega arith)
table_number (ExactlyWhen.repeats r n s h) = (omega arith, omega arith)
table_number (ExactlyWhen.not_one_piece l p) = (omega arith, omega arith)

-- a number that isn't 0
some_number : {number : ℕ} {r : Refusal} {place : ℕ} → 3 ≤ number → r ≡ record { number = number; place = place } → r.number ≡ 0 → ⊥
some_number low e z = let same = ap (λ (q : Refusal). q.number) e in omega arith

-- the refusals that a call tries, with what it tries
pub record Trying (c : Tries) (tried : Tried) : Type 0 where
  pub header : Told tried.header 1 c.header
  pub span : Told tried.span 2 c.span
  pub image : Told tried.image 12 c.image
  pub action : Ready c → Acts tried.action c.action c.taken
  pub room : Told tried.room 13 c.room

module _ (c : Tries) {tried : Tried} (h : Trying c tried) where
  behind_span : Inside c → refusal c.upload tried ≡ first (table_refusal c.upload ∷ tried.image ∷ tried.action ∷ tried.room ∷ [])
  behind_span i =
      order c.upload tried
      ∙ rw (passes h.header i.header, passes h.span i.span)

  behind_table : Inside c → TablePasses c.upload → refusal c.upload tried ≡ first (tried.image ∷ tried.action ∷ tried.room ∷ [])
  behind_table i t = behind_span i ∙ rw (table_accepted c.upload t)

  behind_image : Ready c → refusal c.upload tried ≡ first (tried.action ∷ tried.room ∷ [])
  behind_image r = behind_table r.inside r.table ∙ rw (passes h.image r.image)

  behind_actions : Ready c → c.taken → refusal c.upload tried ≡ first (tried.room ∷ [])
  behind_actions r t = behind_image r ∙ rw ((h.action r).passed t)

  pub ground_given : {number place : ℕ} → Ground c number place → refusal c.upload tried ≡ record { number = number; place = place }
  ground_given (of_header p) =
      order c.upload tried ∙ rw (stands h.header p)
  ground_given (of_span n p) =
      order c.upload tried
      ∙ rw (passes h.header n, stands h.span p)
  ground_given (of_table i p) =
      let e = table_given c.upload p in
      behind_span i
      ∙ first_stop (table_refusal c.upload) (tried.image ∷ tried.action ∷ tried.room ∷ []) (some_number (table_number p).0 e)
      ∙ e
  ground_given (of_image i t p) = behind_table i t ∙ rw (stands h.image p)
  ground_given (of_action r p) =
      let acts = h.action r in
      let e = acts.refused p in
      let low = (acts.range p).0 in
      behind_image r ∙ first_stop tried.action (tried.room ∷ []) (some_number (omega arith) e) ∙ e
  ground_given (of_room r t p) = behind_actions r t ∙ rw (stands h.room p)
  ground_given (ExactlyWhen.accepted r t p) = behind_actions r t ∙ rw (passes h.room p)

  Some : Type 0
  Some = (number : ℕ) × (place : ℕ) × Ground c number place

  some_room : Ready c → c.taken → Dec c.room → Some
  unfolding Some
  some_room r t (yes p) = (13, 0, of_room r t p)
  some_room r t (no p) = (0, 0, ExactlyWhen.accepted r t p)

  some_action : Ready c → c.taken ⊎ ((number : ℕ) × (place : ℕ) × c.action number place) → Some
  unfolding Some
  some_action r (inl t) = some_room r t (decided h.room.test h.room.tells)
  some_action r (inr w) = (w.0, w.1, of_action r w.2)

  some_image : Inside c → TablePasses c.upload → Dec c.image → Some
  unfolding Some
  some_image i t (yes p) = (12, 0, of_image i t p)
  some_image i t (no p) = let ready : Ready c = record { inside = i; table = t; image = p } in some_action ready (h.action ready).either

  some_table : Inside c → TablePasses c.upload ⊎ ((number : ℕ) × (place : ℕ) × TableRefused c.upload number place) → Some
  unfolding Some
  some_table i (inl t) = some_image i t (decided h.image.test h.image.tells)
  some_table i (inr w) = (w.0, w.1, of_table i w.2)

  some_span : Dec c.header → Dec c.span → Some
  unfolding Some
  some_span (yes p) q = (1, 0, of_header p)
  some_span (no p) (yes q) = (2, 0, of_span p q)
  some_span (no p) (no q) = some_table (record { header = p; span = q }) (table_either c.upload)

  pub ground : (number place : ℕ) → refusal c.upload tried ≡ record { number = number; place = place } → Ground c number place
  unfolding Some
  ground number place e =
      let w = some_span (decided h.header.test h.header.tells) (decided h.span.test h.span.tells) in
      let same = sym (ground_given w.2) ∙ e in
      subst₂ (Ground c) (ap (λ (r : Refusal). r.number) same) (ap (λ (r : Refusal). r.place) same) w.2

-- an answer has the number and the place of its refusal
pub answered_given : (r : Refusal) (steps : ℕ) (t : Table) (s : State) → ((answered r steps t s).refusal ≡ r.number) × ((answered r steps t s).place ≡ r.place)
answered_given r steps t s = go (has_state r)
  where
    go : (b : Bool) → ((cond b (reported r steps t s) (refused_with r)).refusal ≡ r.number) × ((cond b (reported r steps t s) (refused_with r)).place ≡ r.place)
    go true = (refl, refl)
    go false = (refl, refl)

pub exactly : (c : Tries) {tried : Tried} (h : Trying c tried) (steps : ℕ) (t : Table) (s : State) → Exactly (answered (refusal c.upload tried) steps t s) (Ground c)
exactly c {tried} h steps t s number place = (there, back)
  where
    same : ((answered (refusal c.upload tried) steps t s).refusal ≡ (refusal c.upload tried).number) × ((answered (refusal c.upload tried) steps t s).place ≡ (refusal c.upload tried).place)
    same = answered_given (refusal c.upload tried) steps t s

    there : Given (answered (refusal c.upload tried) steps t s) number place → Ground c number place
    there g = ground c h number place (λ i. record { number = (sym same.0 ∙ g.0) i; place = (sym same.1 ∙ g.1) i })

    back : Ground c number place → Given (answered (refusal c.upload tried) steps t s) number place
    back g =
        let e = ground_given c h g in
        (same.0 ∙ ap (λ (r : Refusal). r.number) e, same.1 ∙ ap (λ (r : Refusal). r.place) e)

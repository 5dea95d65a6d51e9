-- The order of refusals: the first of a list, and the checks of the table as one.
use Prim.Native.Nat.{ℕ}
use mathlib.Core.Bool.{Bool, true, false, cond}
use mathlib.Core.Path.{◌≡◌, refl, sym, ap, ◌∙◌}
use mathlib.Core.List.{List, [], ◌∷◌, ◌++◌}
use lib.Dec.{eqb}
use native.Mathlib.Decide.{ℕ_discrete}
use Rattle.paper.specs.Refusals.{Refusal, accepted, given, first, Tried, refusal, table_refusal}
use Rattle.table.proofs.Order.{first_skip, first_stop}
use Rattle.table.proofs.Most.{table_checks}

-- a list of checks counts as its first refusal
pub first_of_first : (xs ys : List Refusal) → first (xs ++ ys) ≡ first (first xs ∷ ys)
first_of_first [] ys = refl
first_of_first (r ∷ rs) ys = go (ℕ_discrete r.number 0) (first_of_first rs ys)
  where
    go : Dec (r.number ≡ 0) → first (rs ++ ys) ≡ first (first rs ∷ ys) → first (r ∷ (rs ++ ys)) ≡ first (first (r ∷ rs) ∷ ys)
    go (yes e) below = first_skip r (rs ++ ys) e ∙ below ∙ ap (λ (q : Refusal). first (q ∷ ys)) (sym (first_skip r rs e))
    go (no e) below = first_stop r (rs ++ ys) e ∙ sym (first_stop r ys e) ∙ ap (λ (q : Refusal). first (q ∷ ys)) (sym (first_stop r rs e))

-- a refusal with nothing behind it
nothing_behind : (r : Refusal) (rs : List Refusal) → first (first (r ∷ accepted ∷ accepted ∷ accepted ∷ []) ∷ rs) ≡ first (r ∷ rs)
nothing_behind r rs = go (ℕ_discrete r.number 0)
  where
    none : List Refusal
    none = accepted ∷ accepted ∷ accepted ∷ []

    go : Dec (r.number ≡ 0) → first (first (r ∷ accepted ∷ accepted ∷ accepted ∷ []) ∷ rs) ≡ first (r ∷ rs)
    go (yes e) = ap (λ (q : Refusal). first (q ∷ rs)) (first_skip r none e) ∙ sym (first_skip r rs e)
    go (no e) = ap (λ (q : Refusal). first (q ∷ rs)) (first_stop r none e)

-- the order of all refusals, with the checks of the table as one
pub order : (upload : List ℕ) (tried : Tried) → refusal upload tried ≡ first (tried.header ∷ tried.span ∷ table_refusal upload ∷ tried.image ∷ tried.action ∷ tried.room ∷ [])
unfolding refusal table_checks
order upload tried =
    ap (λ (q : Refusal). cond (eqb tried.header.number 0) (cond (eqb tried.span.number 0) q tried.span) tried.header)
    (first_of_first (table_checks upload) rest
    ∙ sym (nothing_behind (first (table_checks upload)) rest)
    ∙ ap (λ (q : Refusal). first (q ∷ rest)) (sym (first_of_first (table_checks upload) (accepted ∷ accepted ∷ accepted ∷ []))))
  where
    rest : List Refusal
    rest = tried.image ∷ tried.action ∷ tried.room ∷ []

-- every refusal of a list has a property
abbrev pub Every : (Refusal → Type 0) → List Refusal → Type 0
Every P [] = Unit {0}
Every P (r ∷ rs) = P r × Every P rs

-- then so has the first
pub first_every : (P : Refusal → Type 0) (rs : List Refusal) → P accepted → Every P rs → P (first rs)
first_every P [] none h = none
first_every P (r ∷ rs) none h = go (eqb r.number 0) (first_every P rs none h.1)
  where
    go : (b : Bool) → P (first rs) → P (cond b (first rs) r)
    go true below = below
    go false below = h.0

pub given_either : (P : Refusal → Type 0) (b : Bool) (number place : ℕ) → P accepted → P (record { number = number; place = place }) → P (given b number place)
given_either P true number place none h = h
given_either P false number place none h = none

-- What a call is refused for: the table's refusal first, then what the call itself tries.
use Prim.Native.Nat.{ℕ}
use mathlib.Core.Bool.{Bool, true, false, not, cond, ◌&&◌, ◌||◌}
use mathlib.Core.Path.{◌≡◌, refl, sym, ap, ◌∙◌}
use mathlib.Core.Logic.{◌⊎◌, inl, inr}
use mathlib.Core.List.{List, [], ◌∷◌, ◌++◌}
use native.Mathlib.Omega.{arith}
use native.Mathlib.Decide.{ℕ_discrete}
use lib.ListN.{length}
use lib.Dec.{ltb, leb, eqb}
use borrow.Author.Tests.{eq-eqb, ne_eqb, lt-leb}
use Rattle.paper.specs.Upload.{nodes_of, links_of, actions_of, exact_length}
use Rattle.paper.specs.Table.{Table, table_of, one_piece}
use Rattle.paper.specs.State.{State}
use Rattle.paper.specs.Refusals.{Refusal, accepted, given, first, in_range, links_refusal, refusal, table_refusal}
use Rattle.paper.specs.Calls.{refused_with, reported, answered, trying, has_state}
use Rattle.table.proofs.Order.{first_skip, first_stop}
use Rattle.table.proofs.Most.{table_most}

-- the first of two lists is the second's where the first refuses nothing, else the first's
abbrev Either : List Refusal → List Refusal → Refusal → Type 0
Either rs ss r = (((first rs).number ≡ 0) × (r ≡ first ss)) ⊎ (((first rs).number ≡ 0 → ⊥) × (r ≡ first rs))

first_append : (rs ss : List Refusal) → Either rs ss (first (rs ++ ss))
first_append [] ss = inl (refl, refl)
first_append (r ∷ rs) ss = go (ℕ_discrete r.number 0) (first_append rs ss)
  where
    go : Dec (r.number ≡ 0) → Either rs ss (first (rs ++ ss)) → Either (r ∷ rs) ss (first (r ∷ (rs ++ ss)))
    go (yes e) below = rw (first_skip r rs e, first_skip r (rs ++ ss) e) below
    go (no e) below = inr (rw (first_stop r rs e) e, first_stop r (rs ++ ss) e ∙ sym (first_stop r rs e))

-- the checks of an upload
checks : List ℕ → List Refusal
checks upload =
    accepted
    ∷ accepted
    ∷ given (ltb (length upload) 4) 3 0
    ∷ given (not (in_range (nodes_of upload) (links_of upload) (actions_of upload))) 4 0
    ∷ given (not (eqb (length upload) (exact_length upload))) 3 0
    ∷ links_refusal (table_of upload) 0 (links_of upload)
    ∷ given (not (one_piece (table_of upload))) 8 0
    ∷ []

-- the table is accepted and the call is refused for what it tries itself, or the table is refused
abbrev pub Behind : List ℕ → Refusal → Refusal → Type 0
Behind upload image action =
    (((table_refusal upload).number ≡ 0) × (refusal upload (trying image action accepted) ≡ first (image ∷ action ∷ accepted ∷ [])))
    ⊎ (((table_refusal upload).number ≡ 0 → ⊥) × (refusal upload (trying image action accepted) ≡ table_refusal upload))

pub behind : (upload : List ℕ) (image action : Refusal) → Behind upload image action
unfolding refusal checks
behind upload image action = go (first_append (checks upload) (image ∷ action ∷ accepted ∷ [])) (first_append (checks upload) (accepted ∷ accepted ∷ accepted ∷ []))
  where
    go : Either (checks upload) (image ∷ action ∷ accepted ∷ []) (first (checks upload ++ (image ∷ action ∷ accepted ∷ []))) → Either (checks upload) [] (table_refusal upload) → Behind upload image action
    go (inl (z, e)) (inl (w, f)) = inl (ap (λ (r : Refusal). r.number) f, e)
    go (inl (z, e)) (inr (w, f)) = absurd (w z)
    go (inr (z, e)) (inl (w, f)) = absurd (z w)
    go (inr (z, e)) (inr (w, f)) = inr (λ q. w (sym (ap (λ (r : Refusal). r.number) f) ∙ q), e ∙ sym f)

-- a refused table leaves no state to report
pub no_state : (upload : List ℕ) → ((table_refusal upload).number ≡ 0 → ⊥) → has_state (table_refusal upload) ≡ false
no_state upload h = let most = table_most upload in rw (ne_eqb _ 0 h, lt-leb 9 (table_refusal upload).number (omega arith)) refl

-- an answer has the number of its refusal
pub answered_refusal : (r : Refusal) (steps : ℕ) (t : Table) (s : State) → (answered r steps t s).refusal ≡ r.number
answered_refusal r steps t s = go (has_state r)
  where
    go : (c : Bool) → (cond c (reported r steps t s) (refused_with r)).refusal ≡ r.number
    go true = refl
    go false = refl

-- an accepted call reports its state
pub answered_accepted : (r : Refusal) (steps : ℕ) (t : Table) (s : State) → r.number ≡ 0 → answered r steps t s ≡ reported r steps t s
answered_accepted r steps t s e = ap (λ c. cond (c || (leb 9 r.number && leb r.number 11)) (reported r steps t s) (refused_with r)) (eq-eqb r.number 0 e)

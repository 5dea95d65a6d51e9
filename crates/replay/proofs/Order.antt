-- The order of refusals, cut in two: the checks of the table, and what a call tries behind them.
use Prim.Native.Nat.{ℕ, zero, suc, ◌≤◌, ◌<◌}
use native.Mathlib.Omega.{arith}
use mathlib.Core.Bool.{Bool, true, false, not, cond, false≢true}
use mathlib.Core.Path.{◌≡◌, refl, sym, ap, ◌∙◌}
use mathlib.Core.List.{List, [], ◌∷◌, ◌++◌}
use lib.ListN.{length}
use lib.Dec.{ltb, eqb}
use borrow.Author.Tests.{eq-eqb, ne_eqb, le-leb, lt-leb}
use native.Mathlib.Decide.{dec_le}
use Rattle.paper.specs.Upload.{nodes_of, links_of, actions_of, exact_length}
use Rattle.paper.specs.Table.{Table, table_of, one_piece}
use Rattle.paper.specs.Refusals.{Refusal, accepted, given, first, in_range, names_no_node, joins_itself, repeats, link_refusal, links_refusal, refusal, table_refusal}
use Rattle.paper.specs.State.{State}
use Rattle.table.proofs.Most.{table_checks, table_most}
use Rattle.paper.specs.Calls.{refused_with, answered, left, trying}

pub first_append : (xs ys : List Refusal) → first (xs ++ ys) ≡ cond (eqb (first xs).number 0) (first ys) (first xs)
first_append [] ys = refl
first_append (r ∷ rs) ys = go (eqb r.number 0) refl (first_append rs ys)
  where
    go : (b : Bool) → eqb r.number 0 ≡ b → first (rs ++ ys) ≡ cond (eqb (first rs).number 0) (first ys) (first rs) → cond (eqb r.number 0) (first (rs ++ ys)) r ≡ cond (eqb (cond (eqb r.number 0) (first rs) r).number 0) (first ys) (cond (eqb r.number 0) (first rs) r)
    go true e h = rw e h
    go false e h = rw e (rw e)

behind : (upload : List ℕ) (image action room : Refusal) → refusal upload (trying image action room) ≡ first (table_checks upload ++ (image ∷ action ∷ room ∷ []))
unfolding refusal table_checks
behind upload image action room = refl

split : (upload : List ℕ) (image action room : Refusal) → refusal upload (trying image action room) ≡ cond (eqb (first (table_checks upload)).number 0) (first (image ∷ action ∷ room ∷ [])) (first (table_checks upload))
split upload image action room =
    behind upload image action room ∙ first_append (table_checks upload) (image ∷ action ∷ room ∷ [])

-- where the table is refused, every call is refused for it
pub table_refused : (upload : List ℕ) (image action room : Refusal) → ((table_refusal upload).number ≡ 0 → ⊥) → refusal upload (trying image action room) ≡ table_refusal upload
table_refused upload image action room h =
    go (eqb (first (table_checks upload)).number 0) refl (split upload image action room) (split upload accepted accepted accepted)
  where
    go : (b : Bool) → eqb (first (table_checks upload)).number 0 ≡ b → refusal upload (trying image action room) ≡ cond (eqb (first (table_checks upload)).number 0) (first (image ∷ action ∷ room ∷ [])) (first (table_checks upload)) → table_refusal upload ≡ cond (eqb (first (table_checks upload)).number 0) accepted (first (table_checks upload)) → refusal upload (trying image action room) ≡ table_refusal upload
    go true e p q = absurd (h (ap (λ (r : Refusal). r.number) (rw e at q)))
    go false e p q = (rw e at p) ∙ sym (rw e at q)

-- where it is accepted, a call is refused for what it tries behind it
pub table_accepted : (upload : List ℕ) (image action room : Refusal) → (table_refusal upload).number ≡ 0 → refusal upload (trying image action room) ≡ first (image ∷ action ∷ room ∷ [])
table_accepted upload image action room h =
    go (eqb (first (table_checks upload)).number 0) refl (split upload image action room) (split upload accepted accepted accepted)
  where
    go : (b : Bool) → eqb (first (table_checks upload)).number 0 ≡ b → refusal upload (trying image action room) ≡ cond (eqb (first (table_checks upload)).number 0) (first (image ∷ action ∷ room ∷ [])) (first (table_checks upload)) → table_refusal upload ≡ cond (eqb (first (table_checks upload)).number 0) accepted (first (table_checks upload)) → refusal upload (trying image action room) ≡ first (image ∷ action ∷ room ∷ [])
    go true e p q = rw e at p
    go false e p q =
        absurd (false≢true (sym e ∙ eq-eqb (first (table_checks upload)).number 0 (sym (ap (λ (r : Refusal). r.number) (rw e at q)) ∙ h)))

-- a refusal that is not of an action is answered as such
pub answered_refused : (r : Refusal) (steps : ℕ) (t : Table) (s : State) → (r.number ≡ 0 → ⊥) → (9 ≤ r.number → 11 < r.number) → answered r steps t s ≡ refused_with r
answered_refused r steps t s h g = go (dec_le 9 r.number)
  where
    go : Dec (9 ≤ r.number) → answered r steps t s ≡ refused_with r
    go (yes l) = rw (ne_eqb r.number 0 h, le-leb 9 r.number l, lt-leb r.number 11 (g l))
    go (no l) = rw (ne_eqb r.number 0 h, lt-leb 9 r.number (omega arith))

-- a call on a refused table answers that refusal, and leaves a lent buffer as it was
pub answered_table : (upload : List ℕ) (image action room : Refusal) (steps : ℕ) (t : Table) (s : State) → ((table_refusal upload).number ≡ 0 → ⊥) → answered (refusal upload (trying image action room)) steps t s ≡ refused_with (table_refusal upload)
answered_table upload image action room steps t s h =
    ap (λ (r : Refusal). answered r steps t s) (table_refused upload image action room h)
    ∙ answered_refused (table_refusal upload) steps t s h (λ l. absurd (omega (arith, table_most upload)))

pub left_table : (upload : List ℕ) (image action room : Refusal) (new old : List ℕ) → ((table_refusal upload).number ≡ 0 → ⊥) → left (refusal upload (trying image action room)) new old ≡ old
left_table upload image action room new old h =
    ap (λ (r : Refusal). left r new old) (table_refused upload image action room h) ∙ rw (ne_eqb (table_refusal upload).number 0 h)

-- on an accepted table with a refused image: 12
abbrev pub twelve : Refusal
twelve = record { number = 12; place = 0 }

pub answered_image : (upload : List ℕ) (good : Bool) (action room : Refusal) (steps : ℕ) (t : Table) (s : State) → (table_refusal upload).number ≡ 0 → good ≡ false → answered (refusal upload (trying (given (not good) 12 0) action room)) steps t s ≡ refused_with twelve
answered_image upload good action room steps t s h e =
    rw (table_accepted upload (given (not good) 12 0) action room h, e)

pub left_image : (upload : List ℕ) (good : Bool) (action room : Refusal) (new old : List ℕ) → (table_refusal upload).number ≡ 0 → good ≡ false → left (refusal upload (trying (given (not good) 12 0) action room)) new old ≡ old
left_image upload good action room new old h e = rw (table_accepted upload (given (not good) 12 0) action room h, e)

-- on an accepted table with an accepted image: what is tried behind it
pub refusal_behind : (upload : List ℕ) (good : Bool) (action room : Refusal) → (table_refusal upload).number ≡ 0 → good ≡ true → refusal upload (trying (given (not good) 12 0) action room) ≡ first (action ∷ room ∷ [])
refusal_behind upload good action room h e = rw (table_accepted upload (given (not good) 12 0) action room h, e)

-- One link tried for 5, 6 and 7: its refusal in plain terms.
use Prim.Native.Nat.{ℕ, ◌≤◌, ◌<◌}
use mathlib.Core.Bool.{Bool, true, false}
use mathlib.Core.Path.{◌≡◌, refl}
use mathlib.Core.List.{[], ◌∷◌}
use native.Mathlib.Decide.{dec_lt}
use native.Mathlib.Omega.{arith}
use borrow.Author.Tests.{eqb-false}
use Rattle.paper.specs.Table.{Table}
use Rattle.paper.specs.Refusals.{Refusal, given, first, names_no_node, joins_itself, repeats, link_refusal}
use Rattle.table.specs.Checked.{link_number}
use Rattle.table.specs.ExactlyWhen.{NamesNoNode, JoinsItself, Repeats, LinkPasses}
use Rattle.table.proofs.Tells.{holds, fails, decided, tells_names, tells_itself, tells_repeats}

-- the three tests of a link in their order
abbrev tried : Bool → Bool → Bool → ℕ → Refusal
tried names itself again i = first (given names 5 i ∷ given itself 6 i ∷ given again 7 i ∷ [])

tried_number : (a b c : Bool) (i : ℕ) → link_number a b c ≡ (tried a b c i).number
tried_number true b c i = refl
tried_number false true c i = refl
tried_number false false true i = refl
tried_number false false false i = refl

module _ (t : Table) (i : ℕ) where
  -- docs/PORT.md names it
  pub link_number_is : link_number (names_no_node t i) (joins_itself t i) (repeats t i) ≡ (link_refusal t i).number
  link_number_is = tried_number (names_no_node t i) (joins_itself t i) (repeats t i) i

  pub link_names : NamesNoNode t i → link_refusal t i ≡ record { number = 5; place = i }
  link_names p = rw (holds (names_no_node t i) (tells_names t i) p)

  pub link_itself : (NamesNoNode t i → ⊥) → JoinsItself t i → link_refusal t i ≡ record { number = 6; place = i }
  link_itself n p =
      rw (fails (names_no_node t i) (tells_names t i) n, holds (joins_itself t i) (tells_itself t i) p)

  pub link_repeats : (NamesNoNode t i → ⊥) → (JoinsItself t i → ⊥) → Repeats t i → link_refusal t i ≡ record { number = 7; place = i }
  link_repeats n s p =
      rw (
        fails (names_no_node t i) (tells_names t i) n,
        fails (joins_itself t i) (tells_itself t i) s,
        holds (repeats t i) (tells_repeats t i) p,
      )

  -- where both ends are nodes
  pub names_none : t.end i false < t.nodes → t.end i true < t.nodes → NamesNoNode t i → ⊥
  names_none p q w = go w.0 w.1
    where
      go : (b : Bool) → t.nodes ≤ t.end i b → ⊥
      go false h = omega arith
      go true h = omega arith

  pub link_passes : LinkPasses t i → (link_refusal t i).number ≡ 0
  link_passes p =
      rw (
        fails (names_no_node t i) (tells_names t i) p.names,
        fails (joins_itself t i) (tells_itself t i) p.apart,
        fails (repeats t i) (tells_repeats t i) p.new,
      )

  -- why a link is refused, or that it passes
  pub data Why : Type 0 where
    named : NamesNoNode t i → Why
    itself : (NamesNoNode t i → ⊥) → JoinsItself t i → Why
    again : (NamesNoNode t i → ⊥) → (JoinsItself t i → ⊥) → Repeats t i → Why
    passing : LinkPasses t i → Why

  pub why : Why
  why =
      go
      (decided (names_no_node t i) (tells_names t i))
      (decided (joins_itself t i) (tells_itself t i))
      (decided (repeats t i) (tells_repeats t i))
    where
      go : Dec (NamesNoNode t i) → Dec (JoinsItself t i) → Dec (Repeats t i) → Why
      go (yes p) q r = named p
      go (no p) (yes q) r = itself p q
      go (no p) (no q) (yes r) = again p q r
      go (no p) (no q) (no r) = passing (record { names = p; apart = q; new = r })

  pub link_passed : (link_refusal t i).number ≡ 0 → LinkPasses t i
  link_passed h = go why
    where
      go : Why → LinkPasses t i
      go (named p) = absurd (eqb-false 5 0 refl (rw (link_names p) at h))
      go (itself n p) = absurd (eqb-false 6 0 refl (rw (link_itself n p) at h))
      go (again n s p) = absurd (eqb-false 7 0 refl (rw (link_repeats n s p) at h))
      go (passing p) = p

  -- the ends of a link that passes are nodes
  pub passed_ends : LinkPasses t i → (b : Bool) → t.end i b < t.nodes
  passed_ends p b = go (dec_lt (t.end i b) t.nodes)
    where
      go : Dec (t.end i b < t.nodes) → t.end i b < t.nodes
      go (yes l) = l
      go (no l) = absurd (p.names (b, omega arith))

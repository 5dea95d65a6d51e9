-- One equation between links and nodes, true wherever the local facts hold.
use Prim.Native.Nat.{ℕ, ◌+◌, ◌≤◌, ◌<◌}
use mathlib.Core.Bool.{Bool, true, false, not, cond, ◌&&◌}
use mathlib.Core.Path.{◌≡◌, refl, ap, sym, ◌∙◌}
use native.Mathlib.Omega.{arith}
use native.Mathlib.Decide.{ℕ_discrete}
use lib.Dec.{eqb}
use borrow.Author.Tests.{eq-eqb, ne_eqb}
use Rattle.counting.specs.Count.{count, bit}
use Rattle.counting.proofs.Bits.{bit_true, bit_false}
use Rattle.counting.proofs.Sums.{sum_add, sum_eq, sum_ones}
use Rattle.counting.proofs.Directions.{handshake_count}
use Rattle.paper.specs.Table.{Table, target, directions, EndsBelow}
use Rattle.paper.specs.State.{State}
use Rattle.paper.specs.Steps.{unheard}
use Rattle.election.specs.Local.{Local}
use Rattle.election.proofs.Ends.{stopped}

-- how many links have both ends in K
abbrev pub inside : Table → (ℕ → Bool) → ℕ
inside t K = count t.links (λ i. K (t.end i false) && K (t.end i true))

-- both ends of the link have stopped waiting, and it has no child mark either way
abbrev pub is_bare : Table → State → ℕ → Bool
is_bare t s i = (not (s.waiting (t.end i false)) && not (s.waiting (t.end i true))) && (not (s.child i false) && not (s.child i true))

abbrev pub bare : Table → State → ℕ
bare t s = count t.links (is_bare t s)

-- every direction into the node has child
abbrev pub is_full : Table → State → ℕ → Bool
is_full t s x = eqb (unheard t s x) 0

-- how many full nodes have stopped waiting
abbrev pub full_stopped : Table → State → ℕ
full_stopped t s = count t.nodes (λ x. not (s.waiting x) && is_full t s x)

-- at most one, and whether it is none
one_or_none : (u : ℕ) → u ≤ 1 → u + bit (eqb u 0) ≡ 1
one_or_none u l = go (ℕ_discrete u 0)
  where
    go : Dec (u ≡ 0) → u + bit (eqb u 0) ≡ 1
    go (yes e) = let b = bit_true (eq-eqb u 0 e) in omega arith
    go (no d) = let b = bit_false (ne_eqb u 0 d) in omega arith

-- of one link: which ends wait, which directions are child
of_one_link : (x y c d : Bool) → (x ≡ true → c ≡ false) → (y ≡ true → d ≡ false) → (c ≡ true → d ≡ false) → (bit (not y && not c) + bit (not x && not d)) + bit (x && y) ≡ 1 + bit ((not x && not y) && (not c && not d))
of_one_link true true c d p q r = refl
of_one_link true false c d p q r = rw (p refl) refl
of_one_link false true c d p q r = rw (q refl) refl
of_one_link false false true d p q r = rw (r refl) refl
of_one_link false false false true p q r = refl
of_one_link false false false false p q r = refl

module _ (t : Table) (s : State) (below : EndsBelow t) (local : Local t s) where
  -- unheard directions into nodes that have stopped
  owed : ℕ
  owed = directions t (λ i b. not (s.waiting (target t i b)) && not (s.child i b))

  by_nodes : owed + full_stopped t s ≡ stopped t s
  unfolding owed
  by_nodes =
      ap (λ z. z + full_stopped t s) (handshake_count t.nodes t.links (target t) (λ x. not (s.waiting x)) (λ i b. not (s.child i b)) (λ i b l. below i (not b) l))
      ∙ (sym (sum_add t.nodes share (λ x. bit (not (s.waiting x) && is_full t s x)))
      ∙ sum_eq t.nodes (λ x. share x + bit (not (s.waiting x) && is_full t s x)) (λ x. bit (not (s.waiting x))) (λ x l. node x l (s.waiting x) refl))
    where
      share : ℕ → ℕ
      share x = cond (not (s.waiting x)) (unheard t s x) 0

      node : (x : ℕ) → x < t.nodes → (w : Bool) → s.waiting x ≡ w → cond (not w) (unheard t s x) 0 + bit (not w && is_full t s x) ≡ bit (not w)
      node x l true e = refl
      node x l false e = one_or_none (unheard t s x) (local.at_most_one x l e)

  by_links : owed + inside t s.waiting ≡ t.links + bare t s
  unfolding owed
  by_links =
      sym (sum_add t.links share both)
      ∙ (sum_eq t.links (λ i. share i + both i) (λ i. 1 + bit (is_bare t s i)) (λ i l. of_one_link (s.waiting (t.end i false)) (s.waiting (t.end i true)) (s.child i false) (s.child i true) (local.childless i false l) (local.childless i true l) (local.one_way i false l))
      ∙ (sum_add t.links (λ i. 1) (λ i. bit (is_bare t s i))
      ∙ ap (λ z. z + bare t s) (sum_ones t.links)))
    where
      share : ℕ → ℕ
      share i = bit (not (s.waiting (t.end i true)) && not (s.child i false)) + bit (not (s.waiting (t.end i false)) && not (s.child i true))

      both : ℕ → ℕ
      both i = bit (s.waiting (t.end i false) && s.waiting (t.end i true))

  -- Links not inside the waiting nodes, bare links and full nodes that have stopped: together the nodes that have stopped.
  pub balance : t.links + bare t s + full_stopped t s ≡ stopped t s + inside t s.waiting
  balance = let p = by_nodes in let q = by_links in omega arith

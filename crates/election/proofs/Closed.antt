-- Closed sets of nodes: each has as many links inside as members, and its members go on waiting.
use Prim.Native.Nat.{ℕ, ◌+◌, ◌*◌, ◌≤◌, ◌<◌}
use mathlib.Core.Bool.{Bool, true, false, not, cond, ◌&&◌}
use mathlib.Core.Path.{◌≡◌, refl, ap, ◌∙◌}
use native.Mathlib.Omega.{arith}
use native.Mathlib.Decide.{ℕ_discrete}
use Rattle.counting.specs.Count.{bit}
use Rattle.counting.proofs.Sums.{sum_eq, sum_le, sum_twice}
use Rattle.counting.proofs.Directions.{handshake_count}
use Rattle.paper.specs.Table.{Table, source, target, EndsBelow}
use Rattle.paper.specs.State.{State}
use Rattle.paper.specs.Steps.{Step, children_known, add_child, acknowledge, resolve, become_root, unheard, at, possible, effect}
use Rattle.paper.specs.Stuck.{links_into, Closed, size}
use Rattle.election.specs.Local.{Local}
use Rattle.election.proofs.Updates.{at_other}
use Rattle.election.proofs.Possible.{children_known_possible}
use Rattle.election.proofs.Into.{into_le}
use Rattle.election.proofs.Balance.{inside}
use Rattle.election.proofs.Peeling.{waiting_unheard}

-- A closed set has at least as many links inside as members.
pub closed_inside : (t : Table) → EndsBelow t → (K : ℕ → Bool) → Closed t K → size t K ≤ inside t K
closed_inside t below K closed =
    let a = sum_twice t.nodes (λ x. bit (K x)) in
    let b = sum_le t.nodes (λ x. 2 * bit (K x)) (λ x. cond (K x) (links_into t K x) 0) (λ x l. node x l (K x) refl) in
    let c = handshake_count t.nodes t.links (target t) K (λ i b. K (source t i b)) (λ i b l. below i (not b) l) in
    let d = sum_eq t.links (λ i. bit (K (t.end i true) && K (t.end i false)) + bit (K (t.end i false) && K (t.end i true))) (λ i. 2 * bit (K (t.end i false) && K (t.end i true))) (λ i l. link (K (t.end i false)) (K (t.end i true))) in
    let e = sum_twice t.links (λ i. bit (K (t.end i false) && K (t.end i true))) in omega arith
  where
    node : (x : ℕ) → x < t.nodes → (w : Bool) → K x ≡ w → 2 * bit w ≤ cond w (links_into t K x) 0
    node x l true e = closed x l e
    node x l false e = omega arith

    link : (u v : Bool) → bit (v && u) + bit (u && v) ≡ 2 * bit (u && v)
    link true true = refl
    link true false = refl
    link false true = refl
    link false false = refl

-- every member waits
abbrev pub AllWait : Table → (ℕ → Bool) → State → Type 0
AllWait t S s = (x : ℕ) → x < t.nodes → S x ≡ true → s.waiting x ≡ true

-- The members of a closed set go on waiting.
pub closed_waits : (t : Table) → EndsBelow t → (S : ℕ → Bool) → Closed t S → (s : State) → Local t s → AllWait t S s → (x : Step) → possible t s x ≡ true → AllWait t S (effect t s x)
unfolding effect
closed_waits t below S closed s local w (children_known x) e = λ y l m. go y l m (ℕ_discrete y x)
  where
    go : (y : ℕ) → y < t.nodes → S y ≡ true → Dec (y ≡ x) → at s.waiting x false y ≡ true
    go y l m (no d) = at_other s.waiting x false d ∙ w y l m
    go y l m (yes q) =
        let a = closed y l m in
        let b = into_le t y (λ i b. S (source t i b)) (λ i b. s.waiting (source t i b)) (λ i b k f. w (source t i b) (below i b k)) in
        let c = waiting_unheard t s local y in
        let few = (children_known_possible t s x e).2 in
        let d = ap (unheard t s) q in absurd (omega arith)
closed_waits t below S closed s local w (add_child i b) e = w
closed_waits t below S closed s local w (acknowledge i b) e = w
closed_waits t below S closed s local w (resolve i b) e = w
closed_waits t below S closed s local w (become_root x) e = w

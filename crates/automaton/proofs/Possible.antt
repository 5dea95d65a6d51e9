-- When a node may become root, from its mark and the directions into it that lack child.
use Rattle.std.proofs.Common.{ℕ, ◌<◌, Bool, not, ◌&&◌, leb, ◌≡◌, sym, ◌∙◌, arith}
use Rattle.std.proofs.Math.Dec.{eqb}
use Rattle.std.proofs.lemmas.Bool.{lt-ltb, le-leb, lt-leb, eq-eqb, ne_eqb}
use native.Mathlib.Decide.{ℕ_discrete}
use Rattle.paper.specs.Table.{Table}
use Rattle.paper.specs.State.{State}
use Rattle.paper.specs.Steps.{become_root, possible, unheard}

-- at most none is none
none_within : (k : ℕ) → leb k 0 ≡ eqb k 0
none_within k = go (ℕ_discrete k 0)
  where
    go : Dec (k ≡ 0) → leb k 0 ≡ eqb k 0
    go (yes e) = le-leb k 0 (omega arith) ∙ sym (eq-eqb k 0 e)
    go (no e) = lt-leb k 0 (omega arith) ∙ sym (ne_eqb k 0 e)

pub becomes : (t : Table) (s : State) (x : ℕ) {r q : Bool} → x < t.nodes → r ≡ s.root x → q ≡ leb (unheard t s x) 0 → (not r && q) ≡ possible t s (become_root x)
unfolding possible
becomes t s x h r q = rw (lt-ltb x t.nodes h, r, q, none_within (unheard t s x))

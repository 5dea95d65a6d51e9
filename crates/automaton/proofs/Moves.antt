-- When some step on a direction is possible.
use Prim.Native.Nat.{ℕ, ◌<◌}
use mathlib.Core.Bool.{Bool, true, false, not, ◌&&◌, ◌||◌}
use mathlib.Core.Path.{◌≡◌, refl}
use borrow.Author.Tests.{lt-ltb}
use Rattle.paper.specs.Table.{Table, target}
use Rattle.paper.specs.State.{State}
use Rattle.paper.specs.Steps.{possible, resolve, carries}
use Rattle.paper.specs.Report.{moves_on}

either_waits : (w c p : Bool) → (c || p) ≡ ((w && c) || ((not w && c) || p))
either_waits true true p = refl
either_waits true false p = refl
either_waits false c p = refl

-- docs/PORT.md names it
pub moves_on_is : (t : Table) (s : State) (i : ℕ) (b : Bool) {c p : Bool} →
    i < t.links →
    c ≡ carries (s.message i b) →
    p ≡ possible t s (resolve i b) →
    (c || p) ≡ moves_on t s i b
unfolding possible
moves_on_is t s i b h c p =
    rw (c, p, lt-ltb i t.links h) (either_waits (s.waiting (target t i b)) (carries (s.message i b)) _)

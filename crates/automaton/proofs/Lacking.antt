-- What a link adds to a node's unheard directions.
use Rattle.std.proofs.Common.{ℕ, true, false, ◌≡◌}
use Rattle.std.proofs.Math.Dec.{eqb}
use Rattle.std.proofs.lemmas.Bool.{or_parts}
use Rattle.paper.specs.Table.{Table}
use Rattle.paper.specs.State.{State}
use Rattle.automaton.specs.Tried.{touching, lacking}

-- a link that is none of x's has no direction into x
pub lacking_none : (t : Table) (s : State) (x i : ℕ) → touching t x i ≡ false → lacking t s x i ≡ 0
lacking_none t s x i h =
    let none = or_parts (eqb (t.end i false) x) (eqb (t.end i true) x) h in
    rw (none.0, none.1)

-- The local facts hold in the fresh state.
use Prim.Native.Nat.{ℕ, ◌<◌}
use mathlib.Core.Bool.{Bool, true}
use mathlib.Core.Path.{◌≡◌, refl, sym}
use borrow.Author.Tests.{lt-ltb}
use Rattle.paper.specs.Table.{Table, source, EndsBelow}
use Rattle.paper.specs.State.{fresh}
use Rattle.counting.proofs.Booleans.{clash}
use Rattle.election.specs.Local.{Local}
use Rattle.election.proofs.Messages.{loaded}

pub local_fresh : (t : Table) → EndsBelow t → Local t (fresh t)
local_fresh t below =
    record {
      silent = λ i b lt w. refl;
      childless = λ i b lt w. refl;
      one_way = λ i b lt h. refl;
      quiet = λ i b lt h. refl;
      asked = λ i b lt h. refl;
      answered = λ i b lt h. loaded refl (sym h);
      told = λ i b lt w w'. clash (waits i b lt) w;
      met = λ i b lt w w' p q r. clash (waits i b lt) w;
      settled = λ x lt h. clash h refl;
      free = λ i b lt h. refl;
      calm = λ i b lt w. refl;
      heard = λ i b lt h. refl;
      at_most_one = λ x lt w. clash (lt-ltb x t.nodes lt) w;
      rooted = λ i b lt h. h;
    }
  where
    waits : (i : ℕ) (b : Bool) → i < t.links → (fresh t).waiting (source t i b) ≡ true
    waits i b lt = lt-ltb (source t i b) t.nodes (below i b lt)

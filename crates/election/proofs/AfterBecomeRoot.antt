-- The local facts are kept when a node becomes root.
use Prim.Native.Nat.{ℕ}
use mathlib.Core.Bool.{true}
use mathlib.Core.Path.{◌≡◌}
use Rattle.paper.specs.Table.{Table, target}
use Rattle.paper.specs.State.{State}
use Rattle.paper.specs.Steps.{become_root, possible, effect}
use Rattle.paper.proofs.Changes.{at_elim}
use Rattle.election.specs.Local.{Local}
use Rattle.election.proofs.Unheard.{all_child}
use Rattle.election.proofs.Possible.{become_root_possible}

pub local_become_root : (t : Table) (s : State) (x : ℕ) → Local t s → possible t s (become_root x) ≡ true → Local t (effect t s (become_root x))
unfolding effect
local_become_root t s x L can =
    record {
      silent = L.silent;
      childless = L.childless;
      one_way = L.one_way;
      quiet = L.quiet;
      asked = L.asked;
      answered = L.answered;
      told = L.told;
      met = L.met;
      settled = L.settled;
      free = L.free;
      calm = L.calm;
      heard = L.heard;
      at_most_one = L.at_most_one;
      rooted =
          λ i b lt.
          at_elim (λ r. r ≡ true → s.child i b ≡ true) s.root x true (target t i b)
          (λ into h. all_child t s x (become_root_possible t s x can).2 i b lt into)
          (λ other. L.rooted i b lt);
    }

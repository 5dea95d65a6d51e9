-- Into a node that has stopped waiting, every direction but one is child.
use Prim.Native.Nat.{ℕ, ◌<◌}
use mathlib.Core.Bool.{Bool, true, false, not}
use mathlib.Core.Path.{◌≡◌, subst}
use Rattle.paper.specs.Table.{Table, target, EndsBelow}
use Rattle.paper.specs.State.{State}
use Rattle.election.specs.Local.{Local}
use Rattle.election.proofs.Updates.{Same}
use Rattle.election.proofs.Unheard.{others_child}

pub rest_child : (t : Table) (s : State) → EndsBelow t → Local t s → (x : ℕ) → s.waiting x ≡ false → (i : ℕ) (b : Bool) → i < t.links → target t i b ≡ x → s.child i b ≡ false → (j : ℕ) (c : Bool) → j < t.links → target t j c ≡ x → (Same i b j c → ⊥) → s.child j c ≡ true
rest_child t s below L x stopped i b lt into =
    others_child t s x (L.at_most_one x (subst (λ z. z < t.nodes) into (below i (not b) lt)) stopped) i b lt into

-- A state is moving exactly when some step is possible.
use Prim.Native.Nat.{ℕ, ◌<◌}
use mathlib.Core.Bool.{Bool, true, false, ◌||◌}
use mathlib.Core.Path.{◌≡◌}
use mathlib.Core.Logic.{⊎_elim, ◌↔◌}
use Rattle.counting.specs.Count.{some}
use Rattle.std.proofs.lemmas.Bool.{or_left, or_right, or_cases, cases_Bool}
use Rattle.counting.proofs.Booleans.{clash}
use Rattle.counting.proofs.Tests.{some_true, some_holds}
use Rattle.paper.specs.Table.{Table}
use Rattle.paper.specs.State.{State}
use Rattle.paper.specs.Steps.{Step, children_known, add_child, acknowledge, resolve, become_root, possible, Still}
use Rattle.paper.specs.Report.{moves_on, moves_at, moving}
use Rattle.paper.proofs.Changes.{possible_in_table}

-- some step on link i is possible
abbrev on_link : Table → State → ℕ → Bool
on_link t s i = moves_on t s i false || moves_on t s i true

moves_link : (t : Table) (s : State) (i : ℕ) (b : Bool) → i < t.links → moves_on t s i b ≡ true → moving t s ≡ true
unfolding moving
moves_link t s i b h e = or_right (some t.nodes (moves_at t s)) _ (some_holds t.links (on_link t s) i h (go b e))
  where
    go : (b : Bool) → moves_on t s i b ≡ true → on_link t s i ≡ true
    go false e = or_left _ _ e
    go true e = or_right (moves_on t s i false) _ e

pub moves : (t : Table) (s : State) (x : Step) → possible t s x ≡ true → moving t s ≡ true
unfolding moving
moves t s (children_known x) e =
    or_left _ _ (some_holds t.nodes (moves_at t s) x (possible_in_table t s (children_known x) e) (or_left _ _ e))
moves t s (add_child i b) e = moves_link t s i b (possible_in_table t s (add_child i b) e) (or_left _ _ e)
moves t s (acknowledge i b) e =
    moves_link t s i b (possible_in_table t s (acknowledge i b) e) (or_right (possible t s (add_child i b)) _ (or_left _ _ e))
moves t s (resolve i b) e =
    moves_link t s i b (possible_in_table t s (resolve i b) e)
    (or_right (possible t s (add_child i b)) _ (or_right (possible t s (acknowledge i b)) _ e))
moves t s (become_root x) e =
    or_left _ _
    (some_holds t.nodes (moves_at t s) x (possible_in_table t s (become_root x) e)
    (or_right (possible t s (children_known x)) _ e))

-- the step that a moving state can take
pub moving_step : (t : Table) (s : State) → moving t s ≡ true → (x : Step) × (possible t s x ≡ true)
unfolding moving
moving_step t s e = ⊎_elim at_node for_link (or_cases (some t.nodes (moves_at t s)) _ e)
  where
    at_node : some t.nodes (moves_at t s) ≡ true → (x : Step) × (possible t s x ≡ true)
    at_node f =
        let (x, h, g) = some_true t.nodes (moves_at t s) f in
        ⊎_elim (λ e. (children_known x, e)) (λ e. (become_root x, e)) (or_cases (possible t s (children_known x)) _ g)

    on_direction : (i : ℕ) (b : Bool) → moves_on t s i b ≡ true → (x : Step) × (possible t s x ≡ true)
    on_direction i b f =
        ⊎_elim (λ e. (add_child i b, e)) (λ g. ⊎_elim (λ e. (acknowledge i b, e)) (λ e. (resolve i b, e)) (or_cases (possible t s (acknowledge i b)) _ g)) (or_cases (possible t s (add_child i b)) _ f)

    for_link : some t.links (on_link t s) ≡ true → (x : Step) × (possible t s x ≡ true)
    for_link f =
        let (i, h, g) = some_true t.links (on_link t s) f in
        ⊎_elim (on_direction i false) (on_direction i true) (or_cases (moves_on t s i false) _ g)

pub moving_still : (t : Table) (s : State) → (moving t s ≡ false) ↔ Still t s
moving_still t s = (
  λ e x. ⊎_elim (λ f. clash (moves t s x f) e) (λ f. f) (cases_Bool (possible t s x)),
  λ still. ⊎_elim (λ f. let (x, g) = moving_step t s f in clash g (still x)) (λ f. f) (cases_Bool (moving t s)),
)

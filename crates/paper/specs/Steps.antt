-- The automaton: five kinds of step, when each is possible and what it does. Links by number.
use Rattle.std.specs.Prelude.{ℕ, ◌+◌, Bool, true, false, not, cond, ◌&&◌, ◌≡◌, List, [], ◌∷◌, ltb, leb, eqb}
use Rattle.std.specs.Bool.{beq}
use Rattle.counting.specs.Count.{bit}
use Rattle.paper.specs.Table.{Table, source, target, directions}
use Rattle.paper.specs.State.{Message, none, request, acknowledgement, State, fresh}

pub data Step : Type 0 where
  children_known : ℕ → Step
  add_child : ℕ → Bool → Step
  acknowledge : ℕ → Bool → Step
  resolve : ℕ → Bool → Step
  become_root : ℕ → Step

-- how many directions into x lack child
abbrev pub unheard : Table → State → ℕ → ℕ
unheard t s x = directions t (λ i b. eqb (target t i b) x && not (s.child i b))

-- a direction carries a message
abbrev pub carries : Message → Bool
carries none = false
carries request = true
carries acknowledgement = true

abbrev pub is_request : Message → Bool
is_request none = false
is_request request = true
is_request acknowledgement = false

-- possible exactly when: the node or link is in the table, and
unfoldable pub possible : Table → State → Step → Bool
possible t s (children_known x) = ltb x t.nodes && (s.waiting x && leb (unheard t s x) 1)
possible t s (add_child i b) = ltb i t.links && (s.waiting (target t i b) && carries (s.message i b))
possible t s (acknowledge i b) = ltb i t.links && (not (s.waiting (target t i b)) && carries (s.message i b))
possible t s (resolve i b) = ltb i t.links && (s.contending (source t i b) && s.contending (target t i b))
possible t s (become_root x) = ltb x t.nodes && (not (s.root x) && eqb (unheard t s x) 0)

-- f but for the value a at x
abbrev pub at {ℓ} : {A : Type ℓ} → (ℕ → A) → ℕ → A → ℕ → A
at f x a j = cond (eqb j x) a (f j)

-- f but for the value a at the direction (i, b)
abbrev pub at_direction {ℓ} : {A : Type ℓ} → (ℕ → Bool → A) → ℕ → Bool → A → ℕ → Bool → A
at_direction f i b a j c = cond (eqb j i && beq c b) a (f j c)

-- the direction (i, b) is one of the table's, out of x
abbrev pub out_of : Table → ℕ → ℕ → Bool → Bool
out_of t x i b = ltb i t.links && eqb (source t i b) x

-- what x sends on a direction: acknowledgement if the reverse direction has child, else request
abbrev pub sends : Bool → Message
sends true = acknowledgement
sends false = request

-- the effect, by kind; a mark or message that is not named stays
unfoldable pub effect : Table → State → Step → State
effect t s (children_known x) =
    record {
      waiting = at s.waiting x false;
      contending = s.contending;
      root = s.root;
      child = s.child;
      message = λ i b. cond (out_of t x i b) (sends (s.child i (not b))) (s.message i b);
    }
effect t s (add_child i b) =
    record {
      waiting = s.waiting;
      contending = s.contending;
      root = s.root;
      child = at_direction s.child i b true;
      message = at_direction s.message i b none;
    }
effect t s (acknowledge i b) =
    record {
      waiting = s.waiting;
      contending = at s.contending (target t i b) (is_request (s.message i b));
      root = s.root;
      child = s.child;
      message = at_direction s.message i b none;
    }
effect t s (resolve i b) =
    record {
      waiting = s.waiting;
      contending = at (at s.contending (source t i b) false) (target t i b) false;
      root = s.root;
      child = at_direction s.child i b true;
      message = s.message;
    }
effect t s (become_root x) =
    record {
      waiting = s.waiting;
      contending = s.contending;
      root = at s.root x true;
      child = s.child;
      message = s.message;
    }

-- the state after a list of steps
unfoldable pub after : Table → State → List Step → State
after t s [] = s
after t s (x ∷ xs) = after t (effect t s x) xs

-- every step of the list is possible in its turn
unfoldable pub taken : Table → State → List Step → Bool
taken t s [] = true
taken t s (x ∷ xs) = possible t s x && taken t (effect t s x) xs

-- a run of a table: steps from the fresh state, each possible in its turn
abbrev pub Run : Table → List Step → Type 0
Run t xs = taken t (fresh t) xs ≡ true

-- no step is possible
abbrev pub Still : Table → State → Type 0
Still t s = (x : Step) → possible t s x ≡ false

-- how many steps of a list resolve a contention
abbrev pub is_resolve : Step → Bool
is_resolve (children_known x) = false
is_resolve (add_child i b) = false
is_resolve (acknowledge i b) = false
is_resolve (resolve i b) = true
is_resolve (become_root x) = false

unfoldable pub resolved : List Step → ℕ
resolved [] = 0
resolved (x ∷ xs) = bit (is_resolve x) + resolved xs

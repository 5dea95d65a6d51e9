-- The published automaton TIP as its paper lists it, over the nodes and directions of a table, and what ties it to the five kinds of step.
use Rattle.std.specs.Prelude.{ℕ, ◌<◌, Bool, true, false, not, cond, ◌&&◌, ◌≡◌, ◌⊎◌, ◌↔◌, List, [], ◌∷◌, ◌++◌, ltb, eqb}
use Rattle.std.specs.Bool.{beq}
use Rattle.paper.specs.Table.{Table}
use Rattle.paper.specs.State.{Message, none, request, acknowledgement, State, fresh}
use Rattle.paper.specs.Steps.{Step, children_known, add_child, acknowledge, resolve, become_root, possible, effect}
use Rattle.paper.specs.Meanings.{SoundMarks}

-- an edge: a link's number and the end that it comes from
pub record Edge : Type 0 where
  pub link : ℕ
  pub end : Bool

-- v is one of the vertices V
abbrev pub InV : Table → ℕ → Type 0
InV t v = v < t.nodes

-- e is one of the edges E
abbrev pub InE : Table → Edge → Type 0
InE t e = e.link < t.links

-- source(e)
abbrev pub source : Table → Edge → ℕ
source t e = t.end e.link e.end

-- target(e)
abbrev pub target : Table → Edge → ℕ
target t e = t.end e.link (not e.end)

-- e⁻¹
abbrev pub inverse : Edge → Edge
inverse e = record { link = e.link; end = not e.end }

-- e is in to(v)
abbrev pub To : Table → ℕ → Edge → Type 0
To t v e = InE t e × (target t e ≡ v)

-- e is in from(v), as a test
abbrev pub from : Table → ℕ → Edge → Bool
from t v e = ltb e.link t.links && eqb (source t e) v

-- the state variables; mq holds a queue of Booleans for each edge
pub record Variables : Type 0 where
  pub init : ℕ → Bool
  pub contention : ℕ → Bool
  pub root : ℕ → Bool
  pub child : Edge → Bool
  pub mq : Edge → List Bool

abbrev pub empty : List Bool
empty = []

-- hd(q); no action asks it of the empty queue
abbrev pub hd : List Bool → Bool
hd [] = false
hd (b ∷ q) = b

-- tl(q)
abbrev pub tl : List Bool → List Bool
tl [] = []
tl (b ∷ q) = q

-- append(b, q): b behind the last of q
abbrev pub append : Bool → List Bool → List Bool
append b q = q ++ (b ∷ [])

-- f[v] := a
abbrev pub assign : (ℕ → Bool) → ℕ → Bool → ℕ → Bool
assign f v a w = cond (eqb w v) a (f w)

-- f[e] := a
abbrev pub assign_edge : {A : Type 0} → (Edge → A) → Edge → A → Edge → A
assign_edge f e a g = cond (eqb g.link e.link && beq g.end e.end) a (f g)

-- Init: for all v and e
pub record Init (t : Table) (s : Variables) : Type 0 where
  pub init : (v : ℕ) → InV t v → s.init v ≡ true
  pub contention : (v : ℕ) → InV t v → s.contention v ≡ false
  pub root : (v : ℕ) → InV t v → s.root v ≡ false
  pub child : (e : Edge) → InE t e → s.child e ≡ false
  pub mq : (e : Edge) → InE t e → s.mq e ≡ empty

-- the five actions
pub data Action : Type 0 where
  ADD_CHILD : Edge → Action
  ACK : Edge → Action
  ROOT : ℕ → Action
  CHILDREN_KNOWN : ℕ → Action
  RESOLVE_CONTENTION : Edge → Action

-- Pre, of an action on a vertex or an edge of the table
abbrev pub Pre : Table → Variables → Action → Type 0
Pre t s (ADD_CHILD e) = InE t e × (s.init (target t e) ≡ true) × (s.mq e ≡ empty → ⊥)
Pre t s (ACK e) = InE t e × (s.init (target t e) ≡ false) × (s.mq e ≡ empty → ⊥)
Pre t s (ROOT v) = InV t v × (s.root v ≡ false) × ((e : Edge) → To t v e → s.child e ≡ true)
Pre t s (CHILDREN_KNOWN v) =
    InV t v × (s.init v ≡ true) × ((e f : Edge) → To t v e → To t v f → (s.child e ≡ true) ⊎ (s.child f ≡ true) ⊎ (e ≡ f))
Pre t s (RESOLVE_CONTENTION e) =
    InE t e × (s.contention (source t e) ≡ true) × (s.contention (target t e) ≡ true)

-- Eff
unfoldable pub Eff : Table → Variables → Action → Variables
Eff t s (ADD_CHILD e) =
    record {
      init = s.init;
      contention = s.contention;
      root = s.root;
      child = assign_edge s.child e true;
      mq = assign_edge s.mq e (tl (s.mq e));
    }
Eff t s (ACK e) =
    record {
      init = s.init;
      contention = assign s.contention (target t e) (not (hd (s.mq e)));
      root = s.root;
      child = s.child;
      mq = assign_edge s.mq e (tl (s.mq e));
    }
Eff t s (ROOT v) =
    record {
      init = s.init;
      contention = s.contention;
      root = assign s.root v true;
      child = s.child;
      mq = s.mq;
    }
Eff t s (CHILDREN_KNOWN v) =
    record {
      init = assign s.init v false;
      contention = s.contention;
      root = s.root;
      child = s.child;
      mq = λ e. cond (from t v e) (append (s.child (inverse e)) (s.mq e)) (s.mq e);
    }
Eff t s (RESOLVE_CONTENTION e) =
    record {
      init = s.init;
      contention = assign (assign s.contention (source t e) false) (target t e) false;
      root = s.root;
      child = assign_edge s.child e true;
      mq = s.mq;
    }

-- a direction's message as a queue: a request is 0, an acknowledgement is 1
abbrev pub queue : Message → List Bool
queue none = []
queue request = false ∷ []
queue acknowledgement = true ∷ []

-- the variables that a state's marks and messages show
abbrev pub queues : State → Variables
queues s =
    record {
      init = s.waiting;
      contention = s.contending;
      root = s.root;
      child = λ e. s.child e.link e.end;
      mq = λ e. queue (s.message e.link e.end);
    }

-- the action that a step is
abbrev pub action_of : Step → Action
action_of (children_known x) = CHILDREN_KNOWN x
action_of (add_child i b) = ADD_CHILD (record { link = i; end = b })
action_of (acknowledge i b) = ACK (record { link = i; end = b })
action_of (resolve i b) = RESOLVE_CONTENTION (record { link = i; end = b })
action_of (become_root x) = ROOT x

-- the steps of a table are the published automaton's actions, on every state with sound marks
pub record AsPublished (t : Table) : Type 0 where
  -- the fresh state is an initial one
  pub starts : Init t (queues (fresh t))
  -- every action is a step's
  pub every : (a : Action) → (x : Step) × (action_of x ≡ a)
  -- a step is possible exactly when the action's Pre holds
  pub same_possible : (s : State) → SoundMarks t s → (x : Step) → (possible t s x ≡ true) ↔ Pre t (queues s) (action_of x)
  -- and then its effect is the action's Eff
  pub same_effect : (s : State) → SoundMarks t s → (x : Step) → possible t s x ≡ true → Eff t (queues s) (action_of x) ≡ queues (effect t s x)

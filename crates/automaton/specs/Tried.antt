-- What is asked of one link, of one action and of a state.
use Rattle.std.specs.Prelude.{ℕ, ◌+◌, ◌<◌, ◌≡◌, Bool, true, false, not, cond, ◌&&◌, ◌||◌, Option, MatchOption, Result, Ok, Err, ltb, eqb}
use Rattle.counting.specs.Count.{bit}
use Rattle.paper.specs.Table.{Table, target}
use Rattle.paper.specs.State.{State}
use Rattle.paper.specs.Actions.{Reading, names, unread, link_between, direction_from, refused_by}
use Rattle.paper.specs.Report.{moves_on, outcome_of, root_of, waiting_count}
use Rattle.upload.specs.Kinds.{meant}
use Rattle.upload.specs.declared.Direction.{Direction}
use Rattle.upload.specs.declared.step.Step as step
use Rattle.automaton.specs.declared.Refused.{Refused}
use Rattle.automaton.specs.declared.Refused.TheVariants.{Unread, NoLink, Impossible}
use Rattle.automaton.specs.declared.Outcome.{Outcome}
use Rattle.automaton.specs.declared.Outcome.TheVariants.{Moving, Root, Loop, Odd}
use Rattle.automaton.specs.declared.Report.{Report}

-- link i is one of x's
abbrev pub touching : Table → ℕ → ℕ → Bool
touching t x i = eqb (t.end i false) x || eqb (t.end i true) x

-- the direction (i, b) goes to x and lacks child
abbrev pub lacks : Table → State → ℕ → ℕ → Bool → Bool
lacks t s x i b = eqb (target t i b) x && not (s.child i b)

-- how many of the two directions of link i do
abbrev pub lacking : Table → State → ℕ → ℕ → ℕ
lacking t s x i = bit (lacks t s x i false) + bit (lacks t s x i true)

-- some step on link i is possible
abbrev pub link_moves : Table → State → ℕ → Bool
link_moves t s i = moves_on t s i false || moves_on t s i true

-- the number of a refusal
abbrev pub refused_number : Refused → ℕ
refused_number Unread = 9
refused_number NoLink = 10
refused_number (Impossible x) = 11

-- what comes of an action that names a step
abbrev pub refused_unless : Bool → step.Step → Result step.Step Refused
refused_unless possible x = cond possible (Ok x) (Err (Impossible x))

-- what comes of x and y as the ends of a direction
abbrev pub direction_read : Table → ℕ → ℕ → Result Direction Refused
direction_read t x y =
    let i = link_between t x y in
    cond (ltb x t.nodes && ltb y t.nodes)
    (cond (ltb i t.links) (Ok (record { link = i; back = direction_from t i x })) (Err NoLink))
    (Err Unread)

-- the number by which an action is refused, 0 where it can be taken
abbrev pub tried_number : Result step.Step Refused → ℕ
tried_number (Ok x) = 0
tried_number (Err e) = refused_number e

-- what an action reads as
abbrev pub tried_reading : Result step.Step Refused → Reading
tried_reading (Ok x) = names (meant x)
tried_reading (Err Unread) = unread 9
tried_reading (Err NoLink) = unread 10
tried_reading (Err (Impossible x)) = names (meant x)

-- what an action as read comes to
pub record TriedAs (t : Table) (s : State) (read : Reading) (r : Result step.Step Refused) : Type 0 where
  pub number : tried_number r ≡ refused_by t s read
  pub reads : tried_reading r ≡ read

-- a number that may be missing, as document 01 tells it: k is that number, below n, or d where there is none
abbrev pub Told : ℕ → ℕ → ℕ → Option ℕ → Type 0
Told n d k o = MatchOption o (k ≡ d) (λ i. (i < n) × (i ≡ k))

-- the number of an outcome
abbrev pub outcome_number : Outcome → ℕ
outcome_number Moving = 1
outcome_number Root = 2
outcome_number Loop = 3
outcome_number Odd = 4

-- what a state comes to
pub record Reported (t : Table) (s : State) (r : Report) : Type 0 where
  pub outcome : outcome_number r.outcome ≡ outcome_of t s
  pub root : Told t.nodes 255 (root_of t s) r.root
  pub waiting : r.waiting ≡ waiting_count t s

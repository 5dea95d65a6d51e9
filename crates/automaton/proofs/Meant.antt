-- A step, a result and an outcome are told by what they come to in document 01.
use Rattle.std.proofs.Common.{ℕ, ◌≤◌, cond, Option, None, Some, Result, Ok, Err, ◌≡◌, refl, sym, ap, ap₂, ◌∙◌, arith}
use Rattle.std.proofs.Math.Dec.{eqb}
use Rattle.paper.specs.Table.{Table}
use Rattle.paper.specs.State.{State}
use Rattle.paper.specs.Steps.{Step, children_known, add_child, acknowledge, resolve, become_root}
use Rattle.paper.specs.Actions.{Reading, names, unread}
use Rattle.upload.specs.Kinds.{meant}
use Rattle.upload.specs.declared.step.NodeKind.TheVariants.{ChildrenKnown, BecomeRoot}
use Rattle.upload.specs.declared.step.LinkKind.TheVariants.{AddChild, Acknowledge, Resolve}
use Rattle.upload.specs.declared.step.Step as step
use Rattle.upload.specs.declared.step.Step.TheVariants.{Node, Link}
use Rattle.automaton.specs.declared.Refused.{Refused}
use Rattle.automaton.specs.declared.Refused.TheVariants.{Unread, NoLink, Impossible}
use Rattle.automaton.specs.declared.Outcome.{Outcome}
use Rattle.automaton.specs.declared.Outcome.TheVariants.{Moving, Root, Loop, Odd}
use Rattle.automaton.specs.Tried.{tried_number, tried_reading, TriedAs, Told, outcome_number}

-- the step that means a step of document 01
abbrev step_of : Step → step.Step
step_of (children_known x) = Node ChildrenKnown x
step_of (add_child i b) = Link AddChild (record { link = i; back = b })
step_of (acknowledge i b) = Link Acknowledge (record { link = i; back = b })
step_of (resolve i b) = Link Resolve (record { link = i; back = b })
step_of (become_root x) = Node BecomeRoot x

step_of_meant : (x : step.Step) → step_of (meant x) ≡ x
step_of_meant (Node ChildrenKnown x) = refl
step_of_meant (Node BecomeRoot x) = refl
step_of_meant (Link AddChild d) = refl
step_of_meant (Link Acknowledge d) = refl
step_of_meant (Link Resolve d) = refl

-- two steps that mean the same
pub meant_same : {x y : step.Step} → meant x ≡ meant y → x ≡ y
meant_same {x} {y} e = sym (step_of_meant x) ∙ ap step_of e ∙ step_of_meant y

-- the result that comes to a number and a reading
abbrev result_of : ℕ → Reading → Result step.Step Refused
result_of k (names x) = cond (eqb k 0) (Ok (step_of x)) (Err (Impossible (step_of x)))
result_of k (unread n) = cond (eqb n 9) (Err Unread) (Err NoLink)

result_of_tried : (r : Result step.Step Refused) → result_of (tried_number r) (tried_reading r) ≡ r
result_of_tried (Ok x) = ap Ok (step_of_meant x)
result_of_tried (Err Unread) = refl
result_of_tried (Err NoLink) = refl
result_of_tried (Err (Impossible x)) = ap (λ y. Err (Impossible y)) (step_of_meant x)

-- two results of the same action
pub tried_same : {t : Table} {s : State} {read : Reading} {r r' : Result step.Step Refused} → TriedAs t s read r → TriedAs t s read r' → r ≡ r'
tried_same {r} {r'} p q =
    sym (result_of_tried r)
    ∙ ap₂ result_of (p.number ∙ sym q.number) (p.reads ∙ sym q.reads)
    ∙ result_of_tried r'

-- two numbers that may be missing, told alike
pub told_same : (n d k : ℕ) (o o' : Option ℕ) → n ≤ d → Told n d k o → Told n d k o' → o ≡ o'
told_same n d k None None h p q = refl
told_same n d k None (Some j) h p q = absurd (omega (arith, p, q.0, q.1))
told_same n d k (Some i) None h p q = absurd (omega (arith, p.0, p.1, q))
told_same n d k (Some i) (Some j) h p q = ap Some (p.1 ∙ sym q.1)

-- the outcome of a number
abbrev outcome_from : ℕ → Outcome
outcome_from k = cond (eqb k 1) Moving (cond (eqb k 2) Root (cond (eqb k 3) Loop Odd))

outcome_from_number : (o : Outcome) → outcome_from (outcome_number o) ≡ o
outcome_from_number Moving = refl
outcome_from_number Root = refl
outcome_from_number Loop = refl
outcome_from_number Odd = refl

-- two outcomes of one number
pub outcome_same : {o o' : Outcome} → outcome_number o ≡ outcome_number o' → o ≡ o'
outcome_same {o} {o'} e = sym (outcome_from_number o) ∙ ap outcome_from e ∙ outcome_from_number o'

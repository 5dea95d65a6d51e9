-- What a direction carries: nothing, or a message that is not nothing.
use mathlib.Core.Bool.{Bool, true, false}
use mathlib.Core.Path.{◌≡◌, refl, sym, ap}
use mathlib.Core.Logic.{◌⊎◌, inl, inr}
use Rattle.paper.specs.State.{Message, none, request, acknowledgement}
use Rattle.paper.specs.Steps.{carries, is_request, sends}
use Rattle.counting.proofs.Booleans.{clash}

-- a direction that carries a message is not one without
pub loaded : {A : Type 0} {m : Message} → carries m ≡ true → m ≡ none → A
loaded h e = clash h (ap carries e)

-- a message that is there is a request or an acknowledgement
pub kind : (m : Message) → carries m ≡ true → (m ≡ request) ⊎ (m ≡ acknowledgement)
kind none h = clash h refl
kind request h = inl refl
kind acknowledgement h = inr refl

pub requested : (m : Message) → is_request m ≡ true → m ≡ request
requested none h = clash h refl
requested request h = refl
requested acknowledgement h = clash h refl

-- what a node sends is a message: a request where the reverse direction lacks child, an acknowledgement where it has child
pub sends_something : (r : Bool) → carries (sends r) ≡ true
sends_something true = refl
sends_something false = refl

pub sends_request : (r : Bool) → sends r ≡ request → r ≡ false
sends_request true h = clash refl (sym (ap is_request h))
sends_request false h = refl

pub sends_acknowledgement : (r : Bool) → sends r ≡ acknowledgement → r ≡ true
sends_acknowledgement true h = refl
sends_acknowledgement false h = clash refl (ap is_request h)

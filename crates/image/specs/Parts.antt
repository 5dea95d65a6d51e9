-- The effects of the steps in parts: one mark or message of a state, and the one byte of an image that shows it.
use Rattle.std.specs.Prelude.{ℕ, zero, suc, ◌+◌, ◌*◌, ◌/◌, ◌%◌, ◌<◌, Bool, true, false, not, cond, ◌&&◌, ◌≡◌, List, ltb, eqb, length, set}
use Rattle.counting.specs.Count.{bit}
use Rattle.paper.specs.Upload.{byte_at}
use Rattle.paper.specs.Table.{Table, source}
use Rattle.paper.specs.State.{Message, State}
use Rattle.paper.specs.Steps.{at, at_direction, sends}
use Rattle.paper.specs.Image.{direction_at, state_of}

-- a state but for the contending mark of x
abbrev pub contending_at : State → ℕ → Bool → State
contending_at s x c =
    record {
      waiting = s.waiting;
      contending = at s.contending x c;
      root = s.root;
      child = s.child;
      message = s.message;
    }

-- a state but for the root mark of x, which is set
abbrev pub root_at : State → ℕ → State
root_at s x =
    record {
      waiting = s.waiting;
      contending = s.contending;
      root = at s.root x true;
      child = s.child;
      message = s.message;
    }

-- a state but for child of the direction (i, b), which is set
abbrev pub child_at : State → ℕ → Bool → State
child_at s i b =
    record {
      waiting = s.waiting;
      contending = s.contending;
      root = s.root;
      child = at_direction s.child i b true;
      message = s.message;
    }

-- a state but for the message on the direction (i, b)
abbrev pub message_at : State → ℕ → Bool → Message → State
message_at s i b m =
    record {
      waiting = s.waiting;
      contending = s.contending;
      root = s.root;
      child = s.child;
      message = at_direction s.message i b m;
    }

-- x has stopped waiting, and has sent its messages on those directions out of it that pass a test
abbrev pub sent_where : Table → State → ℕ → (ℕ → Bool → Bool) → State
sent_where t s x p =
    record {
      waiting = at s.waiting x false;
      contending = s.contending;
      root = s.root;
      child = s.child;
      message = λ i b. cond (p i b && eqb (source t i b) x) (sends (s.child i (not b))) (s.message i b);
    }

-- x has stopped waiting, and has sent its messages on the links below k
abbrev pub sent_below : Table → State → ℕ → ℕ → State
sent_below t s x k = sent_where t s x (λ i b. ltb i k)

-- a node byte without waiting
abbrev pub stopped_byte : ℕ → ℕ
stopped_byte k = k / 2 * 2

-- a node byte with contending as given
abbrev pub contending_byte : Bool → ℕ → ℕ
contending_byte c k = k % 2 + 2 * bit c + k / 4 * 4

-- a node byte with root
abbrev pub root_byte : ℕ → ℕ
root_byte k = k % 4 + 4

-- a direction byte with child
abbrev pub child_byte : ℕ → ℕ
child_byte k = k / 2 * 2 + 1

-- a direction byte with the message of a number
abbrev pub message_byte : ℕ → ℕ → ℕ
message_byte m k = k % 2 + 2 * m

-- an image with one byte changed
abbrev pub changed : (ℕ → ℕ) → ℕ → List ℕ → List ℕ
changed f j image = set image j (f (byte_at image j))

-- an image after x sends on the direction (i, b), if that comes from x
unfoldable pub sent : Table → ℕ → ℕ → Bool → List ℕ → List ℕ
sent t x i b image =
    cond (eqb (source t i b) x) (changed (message_byte (1 + bit ((state_of t image).child i (not b)))) (direction_at t i b) image) image

-- an image after x sends on both directions of link i
unfoldable pub sent_on : Table → ℕ → ℕ → List ℕ → List ℕ
sent_on t x i image = sent t x i true (sent t x i false image)

-- k bytes from a place on, all of one value
unfoldable pub filled : List ℕ → ℕ → ℕ → ℕ → List ℕ
filled image from zero value = image
filled image from (suc k) value = set (filled image from k value) (from + k) value

-- all bytes are 0
abbrev pub Blank : List ℕ → Type 0
Blank image = (j : ℕ) → j < length image → byte_at image j ≡ 0

-- The state image: n node bytes, then two bytes for each link in table order, first node to second, then back.
use Rattle.std.specs.Prelude.{ℕ, ◌+◌, ◌*◌, ◌/◌, ◌%◌, Bool, true, false, not, cond, ◌&&◌, List, [], ◌∷◌, ◌++◌, length, ltb, eqb}
use Rattle.counting.specs.Count.{bit, all, list_of, joined}
use Rattle.paper.specs.Upload.{byte_at}
use Rattle.paper.specs.Table.{Table, source}
use Rattle.paper.specs.State.{Message, none, request, acknowledgement, State}
use Rattle.paper.specs.Steps.{carries}

-- node byte: 1 waiting + 2 contending + 4 root
abbrev pub node_byte : State → ℕ → ℕ
node_byte s x = bit (s.waiting x) + 2 * bit (s.contending x) + 4 * bit (s.root x)

-- message 0 none, 1 request, 2 acknowledgement
abbrev pub message_number : Message → ℕ
message_number none = 0
message_number request = 1
message_number acknowledgement = 2

-- direction byte: child + 2 x message
abbrev pub direction_byte : State → ℕ → Bool → ℕ
direction_byte s i b = bit (s.child i b) + 2 * message_number (s.message i b)

-- the image of a state
unfoldable pub image_of : Table → State → List ℕ
image_of t s =
    list_of t.nodes (node_byte s) ++ joined t.links (λ i. direction_byte s i false ∷ direction_byte s i true ∷ [])

-- the length of an image
abbrev pub image_length : Table → ℕ
image_length t = t.nodes + 2 * t.links

-- where the byte of a direction stands
abbrev pub direction_at : Table → ℕ → Bool → ℕ
direction_at t i b = t.nodes + 2 * i + bit b

abbrev pub odd : ℕ → Bool
odd k = eqb (k % 2) 1

abbrev pub message_of : ℕ → Message
message_of k = cond (eqb k 0) none (cond (eqb k 1) request acknowledgement)

-- the state that an image shows; there is no mark and no message outside the table
abbrev pub state_of : Table → List ℕ → State
state_of t image =
    record {
      waiting = λ x. ltb x t.nodes && odd (byte_at image x);
      contending = λ x. ltb x t.nodes && odd (byte_at image x / 2);
      root = λ x. ltb x t.nodes && odd (byte_at image x / 4);
      child = λ i b. ltb i t.links && odd (byte_at image (direction_at t i b));
      message = λ i b. cond (ltb i t.links) (message_of (byte_at image (direction_at t i b) / 2)) none;
    }

-- a byte of a direction is in range, and its source, if it waits, has no message on it
abbrev pub sound_direction : Table → List ℕ → ℕ → Bool → Bool
sound_direction t image i b =
    ltb (byte_at image (direction_at t i b)) 6 && not ((state_of t image).waiting (source t i b) && carries ((state_of t image).message i b))

-- all bytes in range, and no waiting node has a message on a direction out of it
unfoldable pub sound : Table → List ℕ → Bool
sound t image =
    all t.nodes (λ x. ltb (byte_at image x) 8) && all t.links (λ i. sound_direction t image i false && sound_direction t image i true)

-- exactly n + 2m bytes
abbrev pub fits : Table → List ℕ → Bool
fits t image = eqb (length image) (image_length t)

-- A text into a lent buffer: what is answered, and the bytes that are left. `steps` is the text's length in bytes.
use Rattle.std.specs.Prelude.{ℕ, List, [], ◌∷◌, ◌≡◌, length}
use Rattle.paper.specs.declared.Answer.{Answer}
use Rattle.paper.specs.Refusals.{Refusal, first, room_refusal}
use Rattle.paper.specs.Calls.{over, left}

abbrev pub text_refusal : List ℕ → List ℕ → Refusal
text_refusal text buffer = first (room_refusal (length text) buffer ∷ [])

unfoldable pub text_answer : List ℕ → List ℕ → Answer
text_answer text buffer =
    let r = text_refusal text buffer in
    record {
      refusal = r.number;
      place = r.place;
      steps = length (left r text []);
      outcome = 0;
      root = 255;
      waiting = 0;
    }

unfoldable pub text_buffer : List ℕ → List ℕ → List ℕ
text_buffer text buffer = left (text_refusal text buffer) (over text buffer) buffer

-- the answer to a text of so many bytes, written
abbrev pub written : ℕ → Answer
written bytes = record { refusal = 0; place = 0; steps = bytes; outcome = 0; root = 255; waiting = 0 }

-- 13, and nothing written
abbrev pub no_room : Answer
no_room = record { refusal = 13; place = 0; steps = 0; outcome = 0; root = 255; waiting = 0 }

-- what a function leaves that writes a text into a lent buffer
pub record Output (text before after : List ℕ) (answer : Answer) : Type 0 where
  pub answered : answer ≡ text_answer text before
  pub left : after ≡ text_buffer text before

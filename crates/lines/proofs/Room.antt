-- A text into a lent buffer: refused where there is no room, else written from the buffer's start.
use Prim.Native.Nat.{ℕ, ◌≤◌, ◌<◌}
use mathlib.Core.Path.{◌≡◌}
use mathlib.Core.List.{List}
use native.Mathlib.Omega.{arith}
use borrow.Author.Tests.{lt-ltb, le-ltb}
use lib.ListN.{length, take}
use lib.Seq.{sets, lt-length-sets}
use Rattle.paper.specs.Calls.{over}
use Rattle.lines.specs.Output.{text_answer, text_buffer, written, no_room, Output}

pub room_is_short : (text buffer : List ℕ) → length buffer < length text → Output text buffer buffer no_room
unfolding text_answer text_buffer
room_is_short text buffer h =
    record { answered = rw (lt-ltb (length buffer) (length text) h); left = rw (lt-ltb (length buffer) (length text) h) }

pub with_room : {text before after : List ℕ} → after ≡ over text before → length text ≤ length before → Output text before after (written (length text))
unfolding text_answer text_buffer
with_room {text} {before} {after} e h =
    record {
      answered = rw (le-ltb (length before) (length text) h);
      left = rw (le-ltb (length before) (length text) h) e;
    }

-- after some bytes of a text there is room for the next; docs/PORT.md names it
pub next_fits : (text before : List ℕ) (n : ℕ) → length text ≤ length before → n < length text → n < length (sets before 0 (take n text))
next_fits text before n room h = lt-length-sets before 0 (take n text) (omega arith)

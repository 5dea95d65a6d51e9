-- Where a replay on a lent image has come to.
use Rattle.std.specs.Prelude.{ℕ, ◌≡◌, List, Result, Ok, Err}
use Rattle.paper.specs.Table.{table_of}
use Rattle.paper.specs.Image.{state_of, image_of}
use Rattle.paper.specs.Refusals.{Refusal, accepted}
use Rattle.paper.specs.Calls.{Replayed, replayed}
use Rattle.automaton.specs.Tried.{refused_number}
use Rattle.image.specs.Taken.{Holds}
use Rattle.replay.specs.declared.Stopped.{Stopped}

-- the refusal of the action that stopped it, if one did
abbrev pub stopped_by : Result ℕ Stopped → Refusal
stopped_by (Ok steps) = accepted
stopped_by (Err r) = record { number = refused_number r.refused; place = r.place }

-- the number of actions taken
abbrev pub steps_of : Result ℕ Stopped → ℕ
steps_of (Ok steps) = steps
steps_of (Err r) = r.place

-- what is answered, in the state that an image shows
abbrev pub came_to : Result ℕ Stopped → List ℕ → List ℕ → Replayed
came_to r upload image =
    record { refusal = stopped_by r; steps = steps_of r; state = state_of (table_of upload) image }

-- the replay of the upload, with its end image
pub record ReplayedTo (upload : List ℕ) (r : Result ℕ Stopped) (image : List ℕ) : Type 0 where
  pub is : replayed upload ≡ came_to r upload image
  pub left : image ≡ image_of (table_of upload) (replayed upload).state
  pub holds : Holds upload image (replayed upload).state

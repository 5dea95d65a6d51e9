-- The replays to prove, P1 to P12, as one list, and the whole batch case.
use Rattle.std.specs.Prelude.{ℕ, ◌≡◌, List, [], ◌∷◌, ◌++◌, map}
use Rattle.paper.specs.declared.Answer.{Answer}
use Rattle.paper.specs.Calls.{replay_answer, report_answer}
use Rattle.paper.specs.Lines.{text_of}

-- an answer: refusal, place, steps, outcome, root, waiting
abbrev pub six : ℕ → ℕ → ℕ → ℕ → ℕ → ℕ → Answer
six refusal place steps outcome root waiting =
    record { refusal = refusal; place = place; steps = steps; outcome = outcome; root = root; waiting = waiting }

-- n 1, (5 0 255), (1 0 255)
abbrev pub P1 : List ℕ
P1 = 1 ∷ 0 ∷ 0 ∷ 2 ∷ 5 ∷ 0 ∷ 255 ∷ 1 ∷ 0 ∷ 255 ∷ []

-- P1 in the other order
abbrev pub P1_other : List ℕ
P1_other = 1 ∷ 0 ∷ 0 ∷ 2 ∷ 1 ∷ 0 ∷ 255 ∷ 5 ∷ 0 ∷ 255 ∷ []

-- n 2, link 0-1, (1 0 255), (2 0 1), (1 1 255), (3 1 0), (5 1 255)
abbrev pub P2 : List ℕ
P2 = 2 ∷ 1 ∷ 0 ∷ 5 ∷ 0 ∷ 1 ∷ 1 ∷ 0 ∷ 255 ∷ 2 ∷ 0 ∷ 1 ∷ 1 ∷ 1 ∷ 255 ∷ 3 ∷ 1 ∷ 0 ∷ 5 ∷ 1 ∷ 255 ∷ []

-- P2's table, (1 0 255), (1 1 255), (3 0 1), (3 1 0), (4 0 1), (5 1 255)
abbrev pub P3 : List ℕ
P3 = 2 ∷ 1 ∷ 0 ∷ 6 ∷ 0 ∷ 1 ∷ 1 ∷ 0 ∷ 255 ∷ 1 ∷ 1 ∷ 255 ∷ 3 ∷ 0 ∷ 1 ∷ 3 ∷ 1 ∷ 0 ∷ 4 ∷ 0 ∷ 1 ∷ 5 ∷ 1 ∷ 255 ∷ []

-- P2 with (5 1 255) once more
abbrev pub P4 : List ℕ
P4 = 2 ∷ 1 ∷ 0 ∷ 6 ∷ 0 ∷ 1 ∷ 1 ∷ 0 ∷ 255 ∷ 2 ∷ 0 ∷ 1 ∷ 1 ∷ 1 ∷ 255 ∷ 3 ∷ 1 ∷ 0 ∷ 5 ∷ 1 ∷ 255 ∷ 5 ∷ 1 ∷ 255 ∷ []

-- P2's table, only (2 0 1)
abbrev pub P5 : List ℕ
P5 = 2 ∷ 1 ∷ 0 ∷ 1 ∷ 0 ∷ 1 ∷ 2 ∷ 0 ∷ 1 ∷ []

-- n 3, links 0-1, 1-2, 2-0, no action
abbrev pub P6 : List ℕ
P6 = 3 ∷ 3 ∷ 0 ∷ 0 ∷ 0 ∷ 1 ∷ 1 ∷ 2 ∷ 2 ∷ 0 ∷ []

-- P6 with (1 0 255)
abbrev pub P7 : List ℕ
P7 = 3 ∷ 3 ∷ 0 ∷ 1 ∷ 0 ∷ 1 ∷ 1 ∷ 2 ∷ 2 ∷ 0 ∷ 1 ∷ 0 ∷ 255 ∷ []

-- n 4, P6's links and 3-0, (1 3 255), (2 3 0)
abbrev pub P8 : List ℕ
P8 = 4 ∷ 4 ∷ 0 ∷ 2 ∷ 0 ∷ 1 ∷ 1 ∷ 2 ∷ 2 ∷ 0 ∷ 3 ∷ 0 ∷ 1 ∷ 3 ∷ 255 ∷ 2 ∷ 3 ∷ 0 ∷ []

-- n 3, links 0-1, 1-2, (1 0 255), (1 2 255), (2 0 1), (2 2 1), (5 1 255), (1 1 255), (3 1 0), (3 1 2)
abbrev pub P9 : List ℕ
P9 = 3 ∷ 2 ∷ 0 ∷ 8 ∷ 0 ∷ 1 ∷ 1 ∷ 2 ∷ 1 ∷ 0 ∷ 255 ∷ 1 ∷ 2 ∷ 255 ∷ 2 ∷ 0 ∷ 1 ∷ 2 ∷ 2 ∷ 1 ∷ 5 ∷ 1 ∷ 255 ∷ 1 ∷ 1 ∷ 255 ∷ 3 ∷ 1 ∷ 0 ∷ 3 ∷ 1 ∷ 2 ∷ []

-- n 2, links 0-1, 1-0
abbrev pub P10 : List ℕ
P10 = 2 ∷ 2 ∷ 0 ∷ 0 ∷ 0 ∷ 1 ∷ 1 ∷ 0 ∷ []

-- n 2, no link
abbrev pub P11 : List ℕ
P11 = 2 ∷ 0 ∷ 0 ∷ 0 ∷ []

-- P12: P2's table with no action, report of image 1 1 2 0; image 1 1 0 0 is fresh
abbrev pub P12_table : List ℕ
P12_table = 2 ∷ 1 ∷ 0 ∷ 0 ∷ 0 ∷ 1 ∷ []

abbrev pub P12_image : List ℕ
P12_image = 1 ∷ 1 ∷ 2 ∷ 0 ∷ []

abbrev pub P12_fresh : List ℕ
P12_fresh = 1 ∷ 1 ∷ 0 ∷ 0 ∷ []

-- what the definitions answer
unfoldable pub replays : List Answer
replays =
    map replay_answer
    (P1
    ∷ P1_other
    ∷ P2
    ∷ P3
    ∷ P4
    ∷ P5
    ∷ P6
    ∷ P7
    ∷ P8
    ∷ P9
    ∷ P10
    ∷ P11
    ∷ [])
    ++ (report_answer P12_table P12_image ∷ report_answer P12_table P12_fresh ∷ [])

-- what document 01 says
abbrev pub expected : List Answer
expected =
    six 0 0 2 2 0 0
    ∷ six 0 0 2 2 0 0
    ∷ six 0 0 5 2 1 0
    ∷ six 0 0 6 2 1 0
    ∷ six 11 5 5 2 1 0
    ∷ six 11 0 0 1 255 2
    ∷ six 0 0 0 3 255 3
    ∷ six 11 0 0 3 255 3
    ∷ six 0 0 2 3 255 3
    ∷ six 0 0 8 2 1 0
    ∷ six 7 1 0 0 255 0
    ∷ six 8 0 0 0 255 0
    ∷ six 12 0 0 0 255 0
    ∷ six 0 0 0 1 255 2
    ∷ []

-- the whole case: count 2, entries (20, 21) and (41, 3), P2 and three zero bytes
abbrev pub whole : List ℕ
whole =
    0 ∷ 0 ∷ 0 ∷ 2 ∷ 0 ∷ 0 ∷ 0 ∷ 20 ∷ 0 ∷ 0 ∷ 0 ∷ 21 ∷ 0 ∷ 0 ∷ 0 ∷ 41 ∷ 0 ∷ 0 ∷ 0 ∷ 3 ∷ 2 ∷ 1 ∷ 0 ∷ 5 ∷ 0 ∷ 1 ∷ 1 ∷ 0 ∷ 255 ∷ 2 ∷ 0 ∷ 1 ∷ 1 ∷ 1 ∷ 255 ∷ 3 ∷ 1 ∷ 0 ∷ 5 ∷ 1 ∷ 255 ∷ 0 ∷ 0 ∷ 0 ∷ []

-- its two lines
abbrev pub whole_text : List ℕ
whole_text =
    48 ∷ 32 ∷ 48 ∷ 32 ∷ 48 ∷ 32 ∷ 53 ∷ 32 ∷ 50 ∷ 32 ∷ 49 ∷ 32 ∷ 48 ∷ 10 ∷ 49 ∷ 32 ∷ 51 ∷ 32 ∷ 48 ∷ 32 ∷ 48 ∷ 32 ∷ 48 ∷ 32 ∷ 50 ∷ 53 ∷ 53 ∷ 32 ∷ 48 ∷ 10 ∷ []

-- P1 to P12 and the whole case
pub record Replays : Type 0 where
  pub answers : replays ≡ expected
  pub lines : text_of whole ≡ whole_text

-- The lines about saved uploads, as bytes: a file's name and the six numbers, or why there are none; how far it has come; how many of each.
use Rattle.std.specs.Prelude.{ℕ, ◌+◌, ◌*◌, Bool, List, [], ◌∷◌, ◌++◌, length, ltb}
use Rattle.paper.specs.declared.Answer.{Answer}
use Rattle.paper.specs.Calls.{replay_answer}
use Rattle.paper.specs.Lines.{digits, decimal, space, newline}

-- an upload of 126 links and 1,024 actions
abbrev pub longest : ℕ
longest = 4 + 2 * 126 + 3 * 1024

-- more bytes than any upload has
abbrev pub too_long : List ℕ → Bool
too_long bytes = ltb longest (length bytes)

-- the six numbers of an answer, a space before each, and a newline
abbrev pub numbers : Answer → List ℕ
numbers a =
    (space ∷ decimal a.refusal)
    ++ (space ∷ decimal a.place)
    ++ (space ∷ decimal a.steps)
    ++ (space ∷ decimal a.outcome)
    ++ (space ∷ decimal a.root)
    ++ (space ∷ decimal a.waiting)
    ++ (newline ∷ [])

-- a file's name and the six numbers of its upload's replay
unfoldable pub answer_line : List ℕ → List ℕ → List ℕ
answer_line name upload = name ++ numbers (replay_answer upload)

-- `: cannot be opened` and a newline, after a file's name
abbrev pub unopened_line : List ℕ → List ℕ
unopened_line name = name ++ (58 ∷ 32 ∷ 99 ∷ 97 ∷ 110 ∷ 110 ∷ 111 ∷ 116 ∷ 32 ∷ 98 ∷ 101 ∷ 32 ∷ 111 ∷ 112 ∷ 101 ∷ 110 ∷ 101 ∷ 100 ∷ newline ∷ [])

-- `: cannot be read` and a newline, after a file's name
abbrev pub unread_line : List ℕ → List ℕ
unread_line name = name ++ (58 ∷ 32 ∷ 99 ∷ 97 ∷ 110 ∷ 110 ∷ 111 ∷ 116 ∷ 32 ∷ 98 ∷ 101 ∷ 32 ∷ 114 ∷ 101 ∷ 97 ∷ 100 ∷ newline ∷ [])

-- `: longer than any upload` and a newline, after a file's name
abbrev pub too_long_line : List ℕ → List ℕ
too_long_line name = name ++ (58 ∷ 32 ∷ 108 ∷ 111 ∷ 110 ∷ 103 ∷ 101 ∷ 114 ∷ 32 ∷ 116 ∷ 104 ∷ 97 ∷ 110 ∷ 32 ∷ 97 ∷ 110 ∷ 121 ∷ 32 ∷ 117 ∷ 112 ∷ 108 ∷ 111 ∷ 97 ∷ 100 ∷ newline ∷ [])

-- a number below 2 ^ 64 in decimal
abbrev pub wide : ℕ → List ℕ
wide k = digits 19 k

-- a number of files, ` files` and a newline
unfoldable pub progress_line : ℕ → List ℕ
progress_line files = wide files ++ (32 ∷ 102 ∷ 105 ∷ 108 ∷ 101 ∷ 115 ∷ newline ∷ [])

-- `answered `
abbrev pub answered_word : List ℕ
answered_word = 97 ∷ 110 ∷ 115 ∷ 119 ∷ 101 ∷ 114 ∷ 101 ∷ 100 ∷ 32 ∷ []

-- `, not read `
abbrev pub unread_words : List ℕ
unread_words = 44 ∷ 32 ∷ 110 ∷ 111 ∷ 116 ∷ 32 ∷ 114 ∷ 101 ∷ 97 ∷ 100 ∷ 32 ∷ []

-- the last line: how many files were answered, how many were not read, and a newline
unfoldable pub totals_line : ℕ → ℕ → List ℕ
totals_line answered unread = answered_word ++ wide answered ++ unread_words ++ wide unread ++ (newline ∷ [])

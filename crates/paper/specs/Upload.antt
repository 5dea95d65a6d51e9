-- The upload: n, m, a, then m links of two bytes, then a actions of three bytes. Numbers longer than a byte have the high byte first.
use Rattle.std.specs.Prelude.{ℕ, ◌+◌, ◌*◌, List, get_or}

-- the byte at a place, 0 past the end
abbrev pub byte_at : List ℕ → ℕ → ℕ
byte_at bytes i = get_or bytes i 0

-- two bytes as a number, high byte first
abbrev pub two_at : List ℕ → ℕ → ℕ
two_at bytes i = 256 * byte_at bytes i + byte_at bytes (i + 1)

-- four bytes as a number, high byte first
abbrev pub four_at : List ℕ → ℕ → ℕ
four_at bytes i = 65536 * two_at bytes i + two_at bytes (i + 2)

-- n, the number of nodes
abbrev pub nodes_of : List ℕ → ℕ
nodes_of upload = byte_at upload 0

-- m, the number of links
abbrev pub links_of : List ℕ → ℕ
links_of upload = byte_at upload 1

-- a, the number of actions
abbrev pub actions_of : List ℕ → ℕ
actions_of upload = two_at upload 2

-- where link i begins
abbrev pub link_at : ℕ → ℕ
link_at i = 4 + 2 * i

-- where action i begins
abbrev pub action_at : List ℕ → ℕ → ℕ
action_at upload i = 4 + 2 * links_of upload + 3 * i

-- the exact length
abbrev pub exact_length : List ℕ → ℕ
exact_length upload = 4 + 2 * links_of upload + 3 * actions_of upload

-- What checks 3 to 8 of an upload come to, given from the paper's definitions.
use Rattle.std.specs.Prelude.{ℕ, ◌≤◌, not, cond, Bool, ◌≡◌, List, [], ◌∷◌, length}
use Rattle.paper.specs.Upload.{nodes_of, links_of, actions_of, exact_length}
use Rattle.paper.specs.Table.{table_of, one_piece}
use Rattle.paper.specs.Refusals.{Refusal, first, given, links_refusal}

-- the number of a link by its three tests: names a node of n or more, joins a node to itself, repeats an earlier link
abbrev pub link_number : Bool → Bool → Bool → ℕ
link_number unnamed itself again = cond unnamed 5 (cond itself 6 (cond again 7 0))

-- check 8
abbrev pub piece_refusal : List ℕ → Refusal
piece_refusal upload = given (not (one_piece (table_of upload))) 8 0

-- checks 5 to 8
abbrev pub links_then_piece : List ℕ → Refusal
links_then_piece upload = first (links_refusal (table_of upload) 0 (links_of upload) ∷ piece_refusal upload ∷ [])

-- n 1 to 63, m 0 to 126, a 0 to 1,024
pub record InRange (upload : List ℕ) : Type 0 where
  pub some_node : 1 ≤ nodes_of upload
  pub nodes_fit : nodes_of upload ≤ 63
  pub links_fit : links_of upload ≤ 126
  pub actions_fit : actions_of upload ≤ 1024

-- checks 3 and 4 pass: n, m and a are in range, and the length is exact
pub record HeaderPasses (upload : List ℕ) : Type 0 where
  pub range : InRange upload
  pub exact : length upload ≡ exact_length upload

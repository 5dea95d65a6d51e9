-- What is known of an accepted upload.
use Rattle.std.specs.Prelude.{ℕ, ◌≤◌, ◌≡◌, List, true, length}
use Rattle.paper.specs.Upload.{nodes_of, links_of, actions_of, exact_length}
use Rattle.paper.specs.Table.{table_of, EndsBelow, NoSelfLink, OnePiece, one_piece}
use Rattle.paper.specs.Meanings.{NoRepeat, Cut}

pub record Accepted (upload : List ℕ) : Type 0 where
  pub some_node : 1 ≤ nodes_of upload
  pub nodes_fit : nodes_of upload ≤ 63
  pub links_fit : links_of upload ≤ 126
  pub actions_fit : actions_of upload ≤ 1024
  pub exact : length upload ≡ exact_length upload
  pub ends : EndsBelow (table_of upload)
  pub no_self : NoSelfLink (table_of upload)
  pub no_repeat : NoRepeat (table_of upload)
  pub piece : OnePiece (table_of upload)
  pub cut : Cut (table_of upload)

-- the same, with one piece as worked out: of each of these facts there is one proof at most, as a type's invariant asks
pub record Passes (upload : List ℕ) : Type 0 where
  pub some_node : 1 ≤ nodes_of upload
  pub nodes_fit : nodes_of upload ≤ 63
  pub links_fit : links_of upload ≤ 126
  pub actions_fit : actions_of upload ≤ 1024
  pub exact : length upload ≡ exact_length upload
  pub ends : EndsBelow (table_of upload)
  pub no_self : NoSelfLink (table_of upload)
  pub no_repeat : NoRepeat (table_of upload)
  pub piece : one_piece (table_of upload) ≡ true

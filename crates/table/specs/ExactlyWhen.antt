-- The table of refusals of document 01, numbers 3 to 8 with 0, in plain terms: what each number is given for, and at which place.
use Rattle.std.specs.Prelude.{ℕ, ◌≤◌, ◌<◌, Bool, true, false, not, ◌≡◌, ◌↔◌, List, length}
use Rattle.paper.specs.Upload.{nodes_of, links_of, actions_of, exact_length}
use Rattle.paper.specs.Table.{Table, table_of, OnePiece}
use Rattle.paper.specs.Refusals.{table_refusal}
use Rattle.table.specs.Checked.{InRange, HeaderPasses}

-- n, m or a is out of range
pub data OutOfRange (upload : List ℕ) : Type 0 where
  no_node : nodes_of upload < 1 → OutOfRange upload
  many_nodes : 63 < nodes_of upload → OutOfRange upload
  many_links : 126 < links_of upload → OutOfRange upload
  many_actions : 1024 < actions_of upload → OutOfRange upload

-- the upload is under 4 bytes, or not the exact length with n, m and a in range
pub data WrongLength (upload : List ℕ) : Type 0 where
  under : length upload < 4 → WrongLength upload
  inexact : 4 ≤ length upload → InRange upload → (length upload ≡ exact_length upload → ⊥) → WrongLength upload

-- link i names a node of n or more
abbrev pub NamesNoNode : Table → ℕ → Type 0
NamesNoNode t i = (b : Bool) × (t.nodes ≤ t.end i b)

-- link i joins a node to itself
abbrev pub JoinsItself : Table → ℕ → Type 0
JoinsItself t i = t.end i false ≡ t.end i true

-- link i repeats an earlier link j, either way round
abbrev pub Repeats : Table → ℕ → Type 0
Repeats t i =
    (j : ℕ) × (b : Bool) × (j < i) × (t.end j b ≡ t.end i false) × (t.end j (not b) ≡ t.end i true)

-- link i is refused by none of 5, 6 and 7
pub record LinkPasses (t : Table) (i : ℕ) : Type 0 where
  pub names : NamesNoNode t i → ⊥
  pub apart : JoinsItself t i → ⊥
  pub new : Repeats t i → ⊥

-- the k links before link k pass
abbrev pub LinksPass : Table → ℕ → Type 0
LinksPass t k = (i : ℕ) → i < k → LinkPasses t i

-- no earlier check refuses: link i is there, the header passes, and the links before it pass
pub record Reaches (upload : List ℕ) (i : ℕ) : Type 0 where
  pub header : HeaderPasses upload
  pub there : i < links_of upload
  pub earlier : LinksPass (table_of upload) i

-- checks 3 to 7 pass
pub record AllLinksPass (upload : List ℕ) : Type 0 where
  pub header : HeaderPasses upload
  pub links : LinksPass (table_of upload) (links_of upload)

-- the refusal of an upload is this number at this place
abbrev pub Given : List ℕ → ℕ → ℕ → Type 0
Given upload number place = table_refusal upload ≡ record { number = number; place = place }

-- the table of refusals: each number, with its place, is given exactly when its line says so and no earlier check refuses
pub record ExactlyWhen (upload : List ℕ) (place : ℕ) : Type 0 where
  pub accepted : Given upload 0 place ↔ ((place ≡ 0) × AllLinksPass upload × OnePiece (table_of upload))
  pub wrong_length : Given upload 3 place ↔ ((place ≡ 0) × WrongLength upload)
  pub out_of_range : Given upload 4 place ↔ ((place ≡ 0) × (4 ≤ length upload) × OutOfRange upload)
  pub names_no_node : Given upload 5 place ↔ (Reaches upload place × NamesNoNode (table_of upload) place)
  pub joins_itself : Given upload 6 place ↔ (Reaches upload place × (NamesNoNode (table_of upload) place → ⊥) × JoinsItself (table_of upload) place)
  pub repeats : Given upload 7 place ↔ (Reaches upload place × (NamesNoNode (table_of upload) place → ⊥) × (JoinsItself (table_of upload) place → ⊥) × Repeats (table_of upload) place)
  pub not_one_piece : Given upload 8 place ↔ ((place ≡ 0) × AllLinksPass upload × (OnePiece (table_of upload) → ⊥))

-- The numbers of refusal, with their places and their order.
use Rattle.std.specs.Prelude.{ℕ, zero, suc, Bool, true, false, not, cond, ◌&&◌, List, [], ◌∷◌, length, ltb, leb, eqb}
use Rattle.counting.specs.Count.{some}
use Rattle.paper.specs.Upload.{nodes_of, links_of, actions_of, exact_length}
use Rattle.paper.specs.Table.{Table, table_of, one_piece}
use Rattle.paper.specs.Actions.{joins}
use Rattle.paper.specs.Image.{sound, fits}

pub record Refusal : Type 0 where
  pub number : ℕ
  pub place : ℕ

abbrev pub accepted : Refusal
accepted = record { number = 0; place = 0 }

-- refused by a number at a place exactly when the test holds
abbrev pub given : Bool → ℕ → ℕ → Refusal
given test number place = cond test (record { number = number; place = place }) accepted

-- the first refusal of a list
abbrev pub first : List Refusal → Refusal
first [] = accepted
first (r ∷ rs) = cond (eqb r.number 0) (first rs) r

-- n 1 to 63, m 0 to 126, a 0 to 1,024
abbrev pub in_range : ℕ → ℕ → ℕ → Bool
in_range n m a = (leb 1 n && leb n 63) && (leb m 126 && leb a 1024)

-- link i names a node of n or more
abbrev pub names_no_node : Table → ℕ → Bool
names_no_node t i = not (ltb (t.end i false) t.nodes && ltb (t.end i true) t.nodes)

-- link i joins a node to itself
abbrev pub joins_itself : Table → ℕ → Bool
joins_itself t i = eqb (t.end i false) (t.end i true)

-- link i repeats an earlier one, either way round
abbrev pub repeats : Table → ℕ → Bool
repeats t i = some i (joins t (t.end i false) (t.end i true))

-- one link, tried for 5, 6, 7; the place is the link's number
abbrev pub link_refusal : Table → ℕ → Refusal
link_refusal t i = first (given (names_no_node t i) 5 i ∷ given (joins_itself t i) 6 i ∷ given (repeats t i) 7 i ∷ [])

-- the k links from i on, in turn
unfoldable pub links_refusal : Table → ℕ → ℕ → Refusal
links_refusal t i zero = accepted
links_refusal t i (suc k) = first (link_refusal t i ∷ links_refusal t (suc i) k ∷ [])

-- what a call tries beside its upload: `accepted` where it doesn't try it
pub record Tried : Type 0 where
  pub header : Refusal
  pub span : Refusal
  pub image : Refusal
  pub action : Refusal
  pub room : Refusal

-- nothing but the upload
abbrev pub upload_only : Tried
upload_only = record { header = accepted; span = accepted; image = accepted; action = accepted; room = accepted }

-- the order of all refusals, for every call
unfoldable pub refusal : List ℕ → Tried → Refusal
refusal upload tried =
    let t = table_of upload in
    first
    (tried.header
    ∷ tried.span
    ∷ given (ltb (length upload) 4) 3 0
    ∷ given (not (in_range (nodes_of upload) (links_of upload) (actions_of upload))) 4 0
    ∷ given (not (eqb (length upload) (exact_length upload))) 3 0
    ∷ links_refusal t 0 t.links
    ∷ given (not (one_piece t)) 8 0
    ∷ tried.image
    ∷ tried.action
    ∷ tried.room
    ∷ [])

-- the refusal of a table: checks 3 to 8
abbrev pub table_refusal : List ℕ → Refusal
table_refusal upload = refusal upload upload_only

-- 12 where an image is lent to be read: not n + 2m bytes, or not sound
abbrev pub image_refusal : Table → List ℕ → Refusal
image_refusal t image = given (not (fits t image && sound t image)) 12 0

-- 12 where an image is lent to be written only: not n + 2m bytes
abbrev pub length_refusal : Table → List ℕ → Refusal
length_refusal t image = given (not (fits t image)) 12 0

-- 13: the output needs more bytes than the lent buffer has
abbrev pub room_refusal : ℕ → List ℕ → Refusal
room_refusal needed buffer = given (ltb (length buffer) needed) 13 0

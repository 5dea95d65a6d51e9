-- A line into a lent buffer: how many bytes of it are there, and what the buffer holds then.
use Rattle.std.specs.Prelude.{ℕ, cond, List, [], ◌++◌, fold, Option, MatchOption, ◌≡◌, ◌<◌, ◌≤◌, length, ltb}
use Rattle.std.specs.Borrow.{Bor}
use Rattle.paper.specs.Calls.{over}

-- a text at a buffer's start where there is room for all of it, else nothing
pub record Placed (text before after : List ℕ) (count : ℕ) : Type 0 where
  pub counted : count ≡ cond (ltb (length before) (length text)) 0 (length text)
  pub left : after ≡ cond (ltb (length before) (length text)) before (over text before)

-- the same, with no number where there is no room
abbrev pub Joins : List ℕ → List ℕ → List ℕ → Option ℕ → Type 0
Joins text before after count =
    MatchOption count
    ((length before < length text) × (after ≡ before))
    (λ n. (length text ≤ length before) × (n ≡ length text) × (after ≡ over text before))

-- some texts, one behind another
abbrev pub text_of : List (Bor (List ℕ)) → List ℕ
text_of texts = fold (λ l t. l ++ t.now) [] texts

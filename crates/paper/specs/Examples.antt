-- Examples beside the replays: an odd image, what the runner does where the links make loops, a batch with a refused upload.
use Rattle.std.specs.Prelude.{ℕ, ◌≡◌, List, [], ◌∷◌, ◌++◌, replicate}
use Rattle.paper.specs.Calls.{report_answer, run_answer, run_image}
use Rattle.paper.specs.Lines.{text_of}
use Rattle.paper.specs.Replays.{six, P2, P12_table}

-- P2's table, image 0 0 0 0: no step is possible, no root, nobody waits
abbrev pub odd_image : List ℕ
odd_image = 0 ∷ 0 ∷ 0 ∷ 0 ∷ []

-- n 7, links 0-1, 1-2, 2-0, 2-3, 3-4, 4-5, 5-6, 6-4: two loops and a path between them
abbrev pub two_loops : List ℕ
two_loops = 7 ∷ 8 ∷ 0 ∷ 0 ∷ 0 ∷ 1 ∷ 1 ∷ 2 ∷ 2 ∷ 0 ∷ 2 ∷ 3 ∷ 3 ∷ 4 ∷ 4 ∷ 5 ∷ 5 ∷ 6 ∷ 6 ∷ 4 ∷ []

-- n 5, links 0-1, 1-2, 2-0, 0-3, 3-4: a loop with a tail
abbrev pub tail : List ℕ
tail = 5 ∷ 5 ∷ 0 ∷ 0 ∷ 0 ∷ 1 ∷ 1 ∷ 2 ∷ 2 ∷ 0 ∷ 0 ∷ 3 ∷ 3 ∷ 4 ∷ []

-- P8's table with no action: a loop and a node behind it
abbrev pub behind : List ℕ
behind = 4 ∷ 4 ∷ 0 ∷ 0 ∷ 0 ∷ 1 ∷ 1 ∷ 2 ∷ 2 ∷ 0 ∷ 3 ∷ 0 ∷ []

-- the whole case with its two uploads the other way round: entries (20, 3) and (23, 21)
abbrev pub refused_first : List ℕ
refused_first = 0 ∷ 0 ∷ 0 ∷ 2 ∷ 0 ∷ 0 ∷ 0 ∷ 20 ∷ 0 ∷ 0 ∷ 0 ∷ 3 ∷ 0 ∷ 0 ∷ 0 ∷ 23 ∷ 0 ∷ 0 ∷ 0 ∷ 21 ∷ 0 ∷ 0 ∷ 0 ∷ P2

pub record Examples : Type 0 where
  -- outcome 4, odd
  pub odd_byte : report_answer P12_table odd_image ≡ six 0 0 0 4 255 0
  -- fresh, with a loop and no root yet, but moving: node 3 knows its children
  pub loop_moving : report_answer behind (replicate 4 1 ++ replicate 8 0) ≡ six 0 0 0 1 255 4
  -- the runner takes no step and all seven wait, also the node that is in no loop
  pub between_loops : run_answer two_loops (replicate 23 0) ≡ six 0 0 0 3 255 7
  -- the runner takes five steps: the tail's two nodes stop waiting, and the loop's three wait
  pub behind_loop : run_answer tail (replicate 15 0) ≡ six 0 0 5 3 255 3
  -- the image that it leaves: node 3 is a child of node 0, node 4 of node 3, and no message is on its way
  pub tail_image : run_image tail (replicate 15 0) ≡ 1 ∷ 1 ∷ 1 ∷ 0 ∷ 0 ∷ 0 ∷ 0 ∷ 0 ∷ 0 ∷ 0 ∷ 0 ∷ 0 ∷ 1 ∷ 0 ∷ 1 ∷ []
  -- the batch goes on behind a refused upload: `0 3 0 0 0 255 0`, `1 0 0 5 2 1 0`
  pub refused_first_text : text_of refused_first ≡ 48 ∷ 32 ∷ 51 ∷ 32 ∷ 48 ∷ 32 ∷ 48 ∷ 32 ∷ 48 ∷ 32 ∷ 50 ∷ 53 ∷ 53 ∷ 32 ∷ 48 ∷ 10 ∷ 49 ∷ 32 ∷ 48 ∷ 32 ∷ 48 ∷ 32 ∷ 53 ∷ 32 ∷ 50 ∷ 32 ∷ 49 ∷ 32 ∷ 48 ∷ 10 ∷ []

-- What is known of an accepted header, and of a span that lies inside.
use Rattle.std.specs.Prelude.{ℕ, ◌+◌, ◌≤◌, ◌<◌, List, length}
use Rattle.paper.specs.Batch.{count_of, header_end, offset_of, length_of}

-- the header is whole, and its numbers are in range
pub record Header (batch : List ℕ) : Type 0 where
  pub whole : 4 ≤ length batch
  pub fits : length batch ≤ 65536
  pub some : 1 ≤ count_of batch
  pub most : count_of batch ≤ 64
  pub entries : header_end batch ≤ length batch

-- there is such an entry, and its span lies behind the header and ends inside the batch
pub record Inside (batch : List ℕ) (number : ℕ) : Type 0 where
  pub named : number < count_of batch
  pub behind : header_end batch ≤ offset_of batch number
  pub ends : offset_of batch number + length_of batch number ≤ length batch

-- The state: three marks for each node, a mark and at most one message for each direction.
use Rattle.std.specs.Prelude.{ℕ, Bool, false, ltb}
use Rattle.paper.specs.Table.{Table}

pub data Message : Type 0 where
  none request acknowledgement : Message

pub record State : Type 0 where
  pub waiting : ℕ → Bool
  pub contending : ℕ → Bool
  pub root : ℕ → Bool
  pub child : ℕ → Bool → Bool
  pub message : ℕ → Bool → Message

-- every node waiting, no other mark, no message
abbrev pub fresh : Table → State
fresh t =
    record {
      waiting = λ x. ltb x t.nodes;
      contending = λ x. false;
      root = λ x. false;
      child = λ i b. false;
      message = λ i b. none;
    }

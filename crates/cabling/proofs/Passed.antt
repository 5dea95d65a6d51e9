-- An upload that passes the checks is accepted, and the other way round.
use Rattle.std.proofs.Common.{ℕ, List}
use Rattle.paper.specs.Table.{table_of}
use Rattle.paper.proofs.OnePiece.{one_piece_holds, one_piece_back, one_piece_cut}
use Rattle.cabling.specs.Accepted.{Accepted, Passes}

pub accepted : {upload : List ℕ} → Passes upload → Accepted upload
accepted {upload} p =
    let t = table_of upload in
    let piece = one_piece_holds t p.piece in
    record {
      some_node = p.some_node;
      nodes_fit = p.nodes_fit;
      links_fit = p.links_fit;
      actions_fit = p.actions_fit;
      exact = p.exact;
      ends = p.ends;
      no_self = p.no_self;
      no_repeat = p.no_repeat;
      piece = piece;
      cut = one_piece_cut t piece;
    }

pub passes : {upload : List ℕ} → Accepted upload → Passes upload
passes {upload} a =
    record {
      some_node = a.some_node;
      nodes_fit = a.nodes_fit;
      links_fit = a.links_fit;
      actions_fit = a.actions_fit;
      exact = a.exact;
      ends = a.ends;
      no_self = a.no_self;
      no_repeat = a.no_repeat;
      piece = one_piece_back (table_of upload) a.piece;
    }

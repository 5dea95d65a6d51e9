use Rattle.std.proofs.Common.{ℕ, List, sym, ap, ◌∙◌}
use Rattle.paper.specs.Table.{table_of}
use Rattle.paper.specs.Calls.{reported, replayed}
use Rattle.replay.proofs.Checked.{table_good, table_bad}
use Rattle.replay.proofs.Handed.{by_table, bytes_are}
use Rattle.replay.proofs.Replayed.{replay_table, replay_done, taken_length, taken_blank}
use Rattle.replay.proofs.try_replay.Goals as goal

pub returns-in_err-cabling : goal.returns-in_err-cabling
returns-in_err-cabling c =
    let up = c.args.upload.now in
    let told = c.in_err-cabling.ensures.told in
    by_table up _ _ c.from_residual.ensures.1 told ∙ sym (replay_table up (table_bad up _ told))

pub replay_on-requires : goal.replay_on-requires
replay_on-requires c =
    let k = c.image_length-length in
    (sym (taken_length k.result _ k.ensures.1) ∙ k.ensures.0, taken_blank k.result 315 k.ensures.1)

pub returns : goal.returns
returns c =
    let up = c.args.upload.now in
    let cabled = c.in_ok-cabling.ensures in
    c.replay_on.ensures
    ∙ ap (λ (l : List ℕ). reported (replayed l).refusal (replayed l).steps (table_of l) (replayed l).state) (bytes_are c.in_ok-cabling.cabling cabled.same)
    ∙ sym (replay_done up (table_good up cabled.told))

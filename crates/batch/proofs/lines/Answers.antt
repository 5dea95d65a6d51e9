use Rattle.std.proofs.Common.{arith}
use Rattle.batch.proofs.Tests.{header_right}
use Rattle.batch.proofs.Text.{printed, text_refused, text_lines}
use Rattle.batch.proofs.lines.Goals as goal

pub accepted_lines-requires : goal.accepted_lines-requires
accepted_lines-requires c = omega (arith, c.in-Ok.ensures.1, (header_right _ c.in-Ok.ensures.0).most)

pub returns-in-Ok : goal.returns-in-Ok
returns-in-Ok c = printed _ _ (text_lines _ c.in-Ok.ensures.0 c.in-Ok.ensures.1) c.accepted_lines.ensures

pub returns-in-Err : goal.returns-in-Err
returns-in-Err c = printed _ _ (text_refused _ c.in-Err.ensures.1) c.write_refused.ensures

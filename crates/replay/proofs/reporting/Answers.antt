use Rattle.replay.proofs.Answers.{told}
use Rattle.replay.proofs.reporting.Goals as goal

-- The check finds this alone; with it the edits replay/engine_answers_the_same, report_gives_the_waiting_count_as_root fall where two terms differ.
pub returns : goal.returns
returns c = told c.args.number c.args.place c.args.steps _ _ c.from.ensures c.unwrap_or.ensures c.report_of-report.ensures

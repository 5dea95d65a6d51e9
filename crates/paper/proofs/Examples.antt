-- The examples hold by computing.
use mathlib.Core.Path.{refl}
use Rattle.counting.specs.Count.{sum, all, some, least, list_of, joined}
use Rattle.paper.specs.Table.{labels, one_piece}
use Rattle.paper.specs.Steps.{possible, effect}
use Rattle.paper.specs.Image.{image_of, sound}
use Rattle.paper.specs.Report.{moving}
use Rattle.paper.specs.Actions.{reading, listed}
use Rattle.paper.specs.Runner.{run_from, runner}
use Rattle.paper.specs.Refusals.{links_refusal, refusal}
use Rattle.paper.specs.Calls.{report_answer, run_answer, run_image, replay_from, replayed, replay_behind}
use Rattle.paper.specs.Batch.{header_wrong, span_outside, entry_answer, answers_of}
use Rattle.paper.specs.Lines.{digits, line_of, lines_from, text_of}
use Rattle.paper.specs.Examples.{Examples}

pub examples_hold : Examples
unfolding sum all some least list_of joined labels one_piece possible effect image_of sound moving reading listed run_from runner links_refusal refusal report_answer run_answer run_image replay_from replayed replay_behind header_wrong span_outside entry_answer answers_of digits line_of lines_from text_of
examples_hold = record { odd_byte = refl; loop_moving = refl; between_loops = refl; behind_loop = refl; tail_image = refl; refused_first_text = refl }

use Rattle.std.proofs.Common.{◌≡◌, ℕ, List, ◌+◌, ap, sym, ◌∙◌}
use denote.Enum.Declared.{tag_of}
use Rattle.paper.specs.Calls.{refused_with, replay_answer}
use Rattle.paper.specs.Batch.{entry_answer}
use Rattle.batch.specs.contracts.Refusal.{the_type}
use Rattle.batch.specs.declared.Refusal.{Refusal}
use Rattle.batch.specs.declared.Refusal.TheVariants.{Header, Span}
use Rattle.batch.specs.Refusal.{RefusedBy}
use Rattle.batch.proofs.Independent.{header_first, span_next, part_replayed}
use Rattle.batch.proofs.entry.Goals as goal

pub returns-in-Ok : goal.returns-in-Ok
returns-in-Ok c =
    let part = c.in-Ok.ensures in
    c.replay.ensures ∙ ap replay_answer part.2 ∙ sym (part_replayed _ _ part.0 part.1)

-- the number of a refusal is that of its variant
refused_as : (batch : List ℕ) (i : ℕ) (r : Refusal) → RefusedBy batch i r → refused_with (record { number = tag_of the_type r + 1; place = 0 }) ≡ entry_answer batch i
refused_as batch i Header e = sym (header_first batch i e)
refused_as batch i Span e = sym (span_next batch i e.0 e.1)

pub returns-in-Err : goal.returns-in-Err
returns-in-Err c = c.refused.ensures ∙ refused_as _ _ c.in-Err.refusal c.in-Err.ensures

-- What a refusal says of a batch and an entry's number.
use Rattle.std.specs.Prelude.{ℕ, true, false, ◌≡◌, List}
use Rattle.paper.specs.Batch.{header_wrong, span_outside}
use Rattle.batch.specs.declared.Refusal.{Refusal}
use Rattle.batch.specs.declared.Refusal.TheVariants.{Header, Span}

-- the header is refused first
abbrev pub RefusedBy : List ℕ → ℕ → Refusal → Type 0
RefusedBy batch number Header = header_wrong batch ≡ true
RefusedBy batch number Span = (header_wrong batch ≡ false) × (span_outside batch number ≡ true)

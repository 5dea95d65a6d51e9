-- The least number below n that passes a test, as a search finds it and as document 01 tells it.
use Rattle.std.proofs.Common.{ℕ, Bool, Option, None, Some, sym}
use Rattle.counting.specs.Count.{least}
use Rattle.counting.proofs.Ranges.{FirstBelow}
use Rattle.counting.proofs.Tests.{least_none, least_found}
use Rattle.automaton.specs.Tried.{Told}

pub told_least : (n d : ℕ) (p : ℕ → Bool) (o : Option ℕ) → FirstBelow p n o → Told n d (least n p d) o
told_least n d p None first = least_none n p d first
told_least n d p (Some i) first = (first.0, sym (least_found n p d i first.0 first.2 first.1))

-- What the reader's answer says of the table's refusal.
use Rattle.std.proofs.Common.{ℕ, List, ◌≡◌, sym, ap, ◌∙◌, arith}
use Rattle.paper.specs.Refusals as paper
use Rattle.paper.specs.Refusals.{table_refusal}
use Rattle.table.specs.declared.refusal.Refusal.{Refusal}
use Rattle.table.specs.declared.refusal.Refusal.TheVariants.{Length, Range, NamesNoNode, JoinsItself, Repeats, Pieces}
use Rattle.table.specs.Told.{number, meant}

-- no ground of the reader has number 0
number_some : (r : Refusal) → number r ≡ 0 → ⊥
number_some Length e = omega arith
number_some Range e = omega arith
number_some (NamesNoNode i) e = omega arith
number_some (JoinsItself i) e = omega arith
number_some (Repeats i) e = omega arith
number_some Pieces e = omega arith

-- the reader's answer tells whether the table is accepted
module _ (upload : List ℕ) where
  pub table_good : paper.accepted ≡ table_refusal upload → (table_refusal upload).number ≡ 0
  table_good e = ap (λ (w : paper.Refusal). w.number) (sym e)

  pub table_bad : (r : Refusal) → meant r ≡ table_refusal upload → (table_refusal upload).number ≡ 0 → ⊥
  table_bad r e z = number_some r (ap (λ (w : paper.Refusal). w.number) e ∙ z)

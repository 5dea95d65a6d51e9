-- What the reader's answers say is said by one answer alone.
use Rattle.std.proofs.Common.{ℕ, ◌≤◌, cond, eqb, List, length, Result, Ok, Err, IfOk, ◌≡◌, refl, sym, ap, ◌∙◌, arith, Bor}
use Rattle.std.proofs.Props.{props}
use mathlib.Core.HLevel.{is_prop→PathP}
use Rattle.paper.specs.Refusals as paper
use Rattle.cabling.specs.Accepted.{Passes}
use Rattle.cabling.specs.declared.Cabling.{Cabling}
use Rattle.table.specs.declared.refusal.Refusal.{Refusal}
use Rattle.table.specs.declared.refusal.Refusal.TheVariants.{Length, Range, NamesNoNode, JoinsItself, Repeats, Pieces}
use Rattle.table.specs.Told.{number, place, meant, told}

-- no refusal has number 0
pub refuses : (r : Refusal) → number r ≡ 0 → ⊥
refuses Length e = omega arith
refuses Range e = omega arith
refuses (NamesNoNode i) e = omega arith
refuses (JoinsItself i) e = omega arith
refuses (Repeats i) e = omega arith
refuses Pieces e = omega arith

-- the refusal of a number and a place
abbrev of_number : ℕ → ℕ → Refusal
of_number n i =
    cond (eqb n 3) Length (cond (eqb n 4) Range (cond (eqb n 5) (NamesNoNode i) (cond (eqb n 6) (JoinsItself i) (cond (eqb n 7) (Repeats i) Pieces))))

of_its_number : (r : Refusal) → of_number (number r) (place r) ≡ r
of_its_number Length = refl
of_its_number Range = refl
of_its_number (NamesNoNode i) = refl
of_its_number (JoinsItself i) = refl
of_its_number (Repeats i) = refl
of_its_number Pieces = refl

pub meant_once : (r s : Refusal) → meant r ≡ meant s → r ≡ s
meant_once r s e = sym (of_its_number r) ∙ ap (λ (m : paper.Refusal). of_number m.number m.place) e ∙ of_its_number s

-- a cabling is known by its upload
pub cabling_once : (c d : Cabling) → c.upload.bytes ≡ d.upload.bytes → c ≡ d
cabling_once c d e = λ i. record {
  upload = record { bytes = e i; header = is_prop→PathP (λ j. 4 ≤ length (e j).now) (λ j. hlevel props) c.upload.header d.upload.header i };
  passes = is_prop→PathP (λ j. Passes (e j).now) (λ j. hlevel props) c.passes d.passes i;
}

-- two answers that say the same, and are of the same upload where they accept
pub told_once : (y z : Result Cabling Refusal) (u : Bor (List ℕ)) → told y ≡ told z → IfOk y (λ c. c.upload.bytes ≡ u) → IfOk z (λ c. c.upload.bytes ≡ u) → y ≡ z
told_once (Ok c) (Ok d) u e p q = ap Ok (cabling_once c d (p ∙ sym q))
told_once (Ok c) (Err s) u e p q = absurd (refuses s (sym (ap (λ (m : paper.Refusal). m.number) e)))
told_once (Err r) (Ok d) u e p q = absurd (refuses r (ap (λ (m : paper.Refusal). m.number) e))
told_once (Err r) (Err s) u e p q = ap Err (meant_once r s e)

-- What the step with which a list begins is: one step and no other.
use Rattle.std.proofs.Common.{ℕ, List, [], ◌≡◌, sym, ap, ◌∙◌}
use Rattle.paper.specs.Upload.{byte_at}
use Rattle.paper.specs.Table.{Table}
use Rattle.paper.specs.Steps.{Step}
use Rattle.paper.specs.Actions.{reading}
use Rattle.paper.specs.Meanings.{kind_of, first_of, second_of}
use Rattle.first.specs.Leads.{Begins}

pub begins_some : (t : Table) (l : List ℕ) {x : Step} → Begins t l x → l ≡ [] → ⊥
begins_some t l h e = let both = sym e ∙ h.begins in cc

pub begins_once : (t : Table) (l : List ℕ) {x y : Step} → Begins t l x → Begins t l y → x ≡ y
begins_once t l {x} {y} h g =
    let bytes : reading t (kind_of x) (first_of t x) (second_of t x) ≡ reading t (kind_of y) (first_of t y) (second_of t y) =
    ap (λ (k : List ℕ). reading t (byte_at k 0) (byte_at k 1) (byte_at k 2)) (sym h.begins ∙ g.begins) in
    cc (h.reads, g.reads)

-- The checks of the table: refused on one of its grounds, or passed.
use Prim.Native.Nat.{ℕ, zero, suc, ◌≤◌}
use mathlib.Core.Bool.{Bool, not}
use mathlib.Core.Path.{◌≡◌, refl, sym, ap, subst⁻¹, ◌∙◌}
use mathlib.Core.Logic.{◌⊎◌, inl, inr}
use mathlib.Core.List.{List, [], ◌∷◌}
use native.Mathlib.Omega.{arith}
use native.Mathlib.Decide.{ℕ_discrete}
use lib.ListN.{length}
use lib.Dec.{ltb, eqb}
use Rattle.paper.specs.Upload.{nodes_of, links_of, actions_of, exact_length}
use Rattle.paper.specs.Table.{Table, table_of, one_piece}
use Rattle.paper.specs.Refusals.{Refusal, accepted, given, in_range, names_no_node, joins_itself, repeats, link_refusal, links_refusal, refusal, table_refusal}
use Rattle.table.proofs.ExactlyWhen.{exactly_when, passes_all}
use Rattle.demands.specs.ExactlyWhen.{TableRefused, TablePasses}
use Rattle.demands.specs.ExactlyWhen
use Rattle.demands.proofs.Order.{first_every, given_either}

-- 0 or 3 to 8
abbrev OfTable : Refusal → Type 0
OfTable r = (r.number ≡ 0) ⊎ ((3 ≤ r.number) × (r.number ≤ 8))

given_of_table : (b : Bool) (number place : ℕ) → 3 ≤ number → number ≤ 8 → OfTable (given b number place)
given_of_table b number place low high = given_either OfTable b number place (inl refl) (inr (low, high))

link_of_table : (t : Table) (i : ℕ) → OfTable (link_refusal t i)
link_of_table t i =
    first_every OfTable (given (names_no_node t i) 5 i ∷ given (joins_itself t i) 6 i ∷ given (repeats t i) 7 i ∷ []) (inl refl) (
      given_of_table (names_no_node t i) 5 i (omega arith) (omega arith),
      (given_of_table (joins_itself t i) 6 i (omega arith) (omega arith), (given_of_table (repeats t i) 7 i (omega arith) (omega arith), tt)),
    )

links_of_table : (t : Table) (i k : ℕ) → OfTable (links_refusal t i k)
unfolding links_refusal
links_of_table t i zero = inl refl
links_of_table t i (suc k) =
    first_every OfTable (link_refusal t i ∷ links_refusal t (suc i) k ∷ []) (inl refl) (link_of_table t i, (links_of_table t (suc i) k, tt))

-- of the numbers 3 to 8
last : (k : ℕ) → (k ≡ 3 → ⊥) → (k ≡ 4 → ⊥) → (k ≡ 5 → ⊥) → (k ≡ 6 → ⊥) → (k ≡ 7 → ⊥) → 3 ≤ k → k ≤ 8 → k ≡ 8
last k a b c d f low high = omega arith

module _ (upload : List ℕ) where
  of_one_table : OfTable (table_refusal upload)
  unfolding refusal
  of_one_table =
      let t = table_of upload in
      first_every OfTable
      (accepted
      ∷ accepted
      ∷ given (ltb (length upload) 4) 3 0
      ∷ given (not (in_range (nodes_of upload) (links_of upload) (actions_of upload))) 4 0
      ∷ given (not (eqb (length upload) (exact_length upload))) 3 0
      ∷ links_refusal t 0 t.links
      ∷ given (not (one_piece t)) 8 0
      ∷ accepted
      ∷ accepted
      ∷ accepted
      ∷ [])
      (inl refl) (
        inl refl,
        (
          inl refl,
          (
            given_of_table (ltb (length upload) 4) 3 0 (omega arith) (omega arith),
            (
              given_of_table (not (in_range (nodes_of upload) (links_of upload) (actions_of upload))) 4 0 (omega arith) (omega arith),
              (
                given_of_table (not (eqb (length upload) (exact_length upload))) 3 0 (omega arith) (omega arith),
                (
                  links_of_table t 0 t.links,
                  (given_of_table (not (one_piece t)) 8 0 (omega arith) (omega arith), (inl refl, (inl refl, (inl refl, tt)))),
                ),
              ),
            ),
          ),
        ),
      )

  -- a ground gives its number at its place
  pub table_given : {number place : ℕ} → TableRefused upload number place → table_refusal upload ≡ record { number = number; place = place }
  table_given (ExactlyWhen.wrong_length h) = (exactly_when upload 0).wrong_length.1 (refl, h)
  table_given (ExactlyWhen.out_of_range l h) = (exactly_when upload 0).out_of_range.1 (refl, l, h)
  table_given (ExactlyWhen.names_no_node {i} r h) = (exactly_when upload i).names_no_node.1 (r, h)
  table_given (ExactlyWhen.joins_itself {i} r n h) = (exactly_when upload i).joins_itself.1 (r, n, h)
  table_given (ExactlyWhen.repeats {i} r n s h) = (exactly_when upload i).repeats.1 (r, n, s, h)
  table_given (ExactlyWhen.not_one_piece l p) = (exactly_when upload 0).not_one_piece.1 (refl, l, p)

  pub table_accepted : TablePasses upload → table_refusal upload ≡ accepted
  table_accepted h = (exactly_when upload 0).accepted.1 (refl, h.links, h.piece)

  pub table_passed : (table_refusal upload).number ≡ 0 → TablePasses upload
  table_passed e = let h = passes_all upload e in record { links = h.0; piece = h.1 }

  -- the ground of the number that is given
  ground_of : (number place : ℕ) → table_refusal upload ≡ record { number = number; place = place } → (number ≡ 0 → ⊥) → TableRefused upload number place
  ground_of number place e some = go of_one_table
    where
      same : (table_refusal upload).number ≡ number
      same = ap (λ (r : Refusal). r.number) e

      at : (k : ℕ) → number ≡ k → table_refusal upload ≡ record { number = k; place = place }
      at k q = e ∙ ap (λ (n : ℕ). record { number = n; place = place }) q

      three : table_refusal upload ≡ record { number = 3; place = place } → TableRefused upload 3 place
      three g = let w = (exactly_when upload place).wrong_length.0 g in subst⁻¹ (TableRefused upload 3) w.0 (ExactlyWhen.wrong_length w.1)

      four : table_refusal upload ≡ record { number = 4; place = place } → TableRefused upload 4 place
      four g = let w = (exactly_when upload place).out_of_range.0 g in subst⁻¹ (TableRefused upload 4) w.0 (ExactlyWhen.out_of_range w.1 w.2)

      eight : table_refusal upload ≡ record { number = 8; place = place } → TableRefused upload 8 place
      eight g = let w = (exactly_when upload place).not_one_piece.0 g in subst⁻¹ (TableRefused upload 8) w.0 (ExactlyWhen.not_one_piece w.1 w.2)

      five : table_refusal upload ≡ record { number = 5; place = place } → TableRefused upload 5 place
      five g = let w = (exactly_when upload place).names_no_node.0 g in ExactlyWhen.names_no_node w.0 w.1

      six : table_refusal upload ≡ record { number = 6; place = place } → TableRefused upload 6 place
      six g = let w = (exactly_when upload place).joins_itself.0 g in ExactlyWhen.joins_itself w.0 w.1 w.2

      seven : table_refusal upload ≡ record { number = 7; place = place } → TableRefused upload 7 place
      seven g = let w = (exactly_when upload place).repeats.0 g in ExactlyWhen.repeats w.0 w.1 w.2 w.3

      pick : Dec (number ≡ 3) → Dec (number ≡ 4) → Dec (number ≡ 5) → Dec (number ≡ 6) → Dec (number ≡ 7) → 3 ≤ number → number ≤ 8 → TableRefused upload number place
      pick (yes q) b c d f low high = subst⁻¹ (λ k. TableRefused upload k place) q (three (at 3 q))
      pick (no a) (yes q) c d f low high = subst⁻¹ (λ k. TableRefused upload k place) q (four (at 4 q))
      pick (no a) (no b) (yes q) d f low high = subst⁻¹ (λ k. TableRefused upload k place) q (five (at 5 q))
      pick (no a) (no b) (no c) (yes q) f low high = subst⁻¹ (λ k. TableRefused upload k place) q (six (at 6 q))
      pick (no a) (no b) (no c) (no d) (yes q) low high = subst⁻¹ (λ k. TableRefused upload k place) q (seven (at 7 q))
      pick (no a) (no b) (no c) (no d) (no f) low high = let q = last number a b c d f low high in subst⁻¹ (λ k. TableRefused upload k place) q (eight (at 8 q))

      go : OfTable (table_refusal upload) → TableRefused upload number place
      go (inl z) = absurd (some (sym same ∙ z))
      go (inr w) =
          pick (ℕ_discrete number 3) (ℕ_discrete number 4) (ℕ_discrete number 5) (ℕ_discrete number 6) (ℕ_discrete number 7)
          (omega (arith, same, w.0)) (omega (arith, same, w.1))

  -- the table passes, or there is a ground
  pub table_either : TablePasses upload ⊎ ((number : ℕ) × (place : ℕ) × TableRefused upload number place)
  table_either = go (ℕ_discrete (table_refusal upload).number 0)
    where
      go : Dec ((table_refusal upload).number ≡ 0) → TablePasses upload ⊎ ((number : ℕ) × (place : ℕ) × TableRefused upload number place)
      go (yes e) = inl (table_passed e)
      go (no e) = inr ((table_refusal upload).number, (table_refusal upload).place, ground_of (table_refusal upload).number (table_refusal upload).place refl e)

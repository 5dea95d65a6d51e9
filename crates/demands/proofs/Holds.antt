-- An answer within its ranges is one that the struct of the code holds.
use Prim.Native.Nat.{ℕ, ◌<◌}
use mathlib.Core.Path.{◌≡◌, refl}
use mathlib.Core.Logic.{◌⊎◌, inl, inr}
use mathlib.Core.List.{[], ◌∷◌}
use native.Mathlib.Omega.{arith}
use mir.Syntax.{w8, w16}
use mir.Val.{vint}
use denote.Laws.{Is}
use denote.Struct.Declared.{row}
use denote.Struct.Laws.{val}
use Rattle.paper.specs.declared.Answer.{Answer}
use Rattle.paper.specs.contracts.Answer.{the_type}
use Rattle.paper.proofs.Answer.TheLaws.{the_laws}
use Rattle.demands.specs.Answers.{Ranges}

pub holds : (z : Answer) (most : ℕ) → Ranges z most → most < 65536 → Is (row the_type) z (val the_type the_laws z ∷ [])
holds z most r small = (
  (
    vint w8 z.refusal ∷ [],
    (vint w16 z.place ∷ [], (vint w16 z.steps ∷ [], (vint w8 z.outcome ∷ [], (vint w8 z.root ∷ [], (vint w8 z.waiting ∷ [], tt))))),
  ),
  (
    refl,
    (
      (refl, omega (arith, r.refusal_range)),
      (
        (refl, omega (arith, r.place_range)),
        (
          (refl, omega (arith, r.steps_range)),
          ((refl, omega (arith, r.outcome_range)), ((refl, root r.root_range), ((refl, omega (arith, r.waiting_range)), tt))),
        ),
      ),
    ),
  ),
)
  where
    root : (z.root < 63) ⊎ (z.root ≡ 255) → z.root < 256
    root (inl h) = omega arith
    root (inr h) = omega arith

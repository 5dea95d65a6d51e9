-- Two numbers below 256 as one: it tells both. Nothing here cites it; docs/PORT.md names it.
use Prim.Native.Nat.{ℕ, ◌+◌, ◌*◌, ◌<◌}
use mathlib.Core.Bool.{Bool, true, false, ◌&&◌}
use mathlib.Core.Path.{◌≡◌, refl}
use native.Mathlib.Omega.{arith}
use lib.Dec.{eqb}
use borrow.Author.Tests.{eqb-true, eqb-false, eq-eqb, ne_eqb}

pair_first : (p q x y : ℕ) → p < 256 → x < 256 → p + 256 * q ≡ x + 256 * y → p ≡ x
pair_first p q x y hp hx e = omega arith

pair_second : (p q x y : ℕ) → p < 256 → x < 256 → p + 256 * q ≡ x + 256 * y → q ≡ y
pair_second p q x y hp hx e = omega arith

pub pair_eqb : (p q x y : ℕ) → p < 256 → x < 256 → eqb (p + 256 * q) (x + 256 * y) ≡ eqb p x && eqb q y
pair_eqb p q x y hp hx = go (eqb p x) refl (eqb q y) refl
  where
    go : (a : Bool) → eqb p x ≡ a → (b : Bool) → eqb q y ≡ b → eqb (p + 256 * q) (x + 256 * y) ≡ a && b
    go true e true f =
        let one = eqb-true p x e in
        let two = eqb-true q y f in
        eq-eqb (p + 256 * q) (x + 256 * y) (omega arith)
    go true e false f = ne_eqb _ _ (λ g. eqb-false q y f (pair_second p q x y hp hx g))
    go false e b f = ne_eqb _ _ (λ g. eqb-false p x e (pair_first p q x y hp hx g))

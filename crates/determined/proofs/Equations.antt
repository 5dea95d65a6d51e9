-- Laws for contracts that are one equation for the result and one for each lent buffer: what equals one thing is the same, place by place.
use mathlib.Core.Path.{◌≡◌, refl, sym, ◌∙◌}
use borrow.Fn.Enter.{pair≡}

-- two results that are equal to one thing
pub same : {A : Type 0} {x y z : A} → x ≡ z → y ≡ z → x ≡ y
same p q = p ∙ sym q

-- the next parameter is lent, and both contents that it is left with are equal to one list; then the parameters after it
pub lent : {X Y : Type 0} {w w' : X × Y} {l : X} → w.0 ≡ l → w'.0 ≡ l → w.1 ≡ w'.1 → w ≡ w'
lent p q = pair≡ (same p q)

-- the next parameter isn't lent; then the parameters after it
pub unlent : {Y : Type 0} {w w' : Unit {0} × Y} → w.1 ≡ w'.1 → w ≡ w'
unlent = pair≡ refl

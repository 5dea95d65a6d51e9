use mathlib.Core.Path.{◌≡◌, subst}
use mathlib.Core.Bool.{true, false}
use Prim.Native.Nat.{ℕ, ◌+◌, ◌-◌, ◌<◌}
use native.Mathlib.Omega.{arith}
use Rattle.cabling.specs.Cables.{cables}
use Rattle.listing.specs.Links.{Noted}
use Rattle.listing.proofs.Linked.{noted_none, noted_more}
use Rattle.listing.proofs.links_from.Goals as goal

pub loop-i-init : goal.loop-i-init
loop-i-init c = rw c.links-i.ensures.0 (noted_none _ c.args.x)

pub loop-i-preserved : goal.loop-i-preserved
loop-i-preserved c =
    let now = c.loop-i in
    let known = c.args.cabling.now.passes in
    let t = cables c.args.cabling.now in
    let x = c.args.x in
    let i = now.i - 1 in
    let below : i < t.links = omega arith in
    let before : now.i ≡ i + 1 = omega arith in
    rw (c.note_link.ensures, c.source.ensures.0, c.target.ensures.0) (noted_more t x i now.links below (known.no_self i below)
    (omega (arith, known.ends i false below, known.nodes_fit))
    (omega (arith, known.ends i true below, known.nodes_fit))
    (subst (λ (k : ℕ). Noted t x k now.links) before now.invariant))

use Rattle.std.proofs.Common.{◌≡◌, ◌++◌, refl, ap, ◌∙◌, arith, length, replicate}
use Rattle.cabling.specs.Cables.{cables}
use Rattle.image.proofs.Filled.{fresh_made}
use Rattle.image.proofs.make_fresh.Goals as goal

pub returns : goal.returns
returns c =
    let t = cables c.args.cabling.now in
    let rest = c.fill-2.new.self in
    let n : length c.split_at_mut-nodes.result.0.now ≡ t.nodes = omega arith in
    let waiting : c.fill.new.self ≡ replicate t.nodes 1 = c.fill.ensures.after (λ y e. e) ∙ ap (λ k. replicate k 1) n in
    let made = fresh_made t rest (omega arith) (λ j h. c.fill-2.ensures.clones j 0 (omega arith) refl) in
    ap (λ l. l ++ rest) waiting ∙ made

use Rattle.std.proofs.Common.{◌≡◌, ◌++◌, ap, ◌∙◌, arith, length, take, drop, replicate, length-take}
use Rattle.image.specs.Parts.{filled}
use Rattle.image.proofs.Filled.{filled_front}
use Rattle.image.proofs.wake.Goals as goal

pub returns : goal.returns
returns c =
    let image = c.args.image.now in
    let n = c.nodes.result in
    let front : length (take n image) ≡ n = omega (arith, length-take n image) in
    let waiting : c.fill.new.self ≡ replicate n 1 = c.fill.ensures.after (λ y e. e) ∙ ap (λ k. replicate k 1) front in
    ap (λ l. l ++ drop n image) waiting ∙ filled_front image n 1 (omega arith) ∙ ap (λ k. filled image 0 k 1) c.nodes.ensures.0

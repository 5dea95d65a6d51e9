use Rattle.std.proofs.Common.{rules, tests, ltb, sym, ◌∙◌}
use Rattle.counting.proofs.Chains.{all_below}
use Rattle.paper.specs.Upload.{byte_at}
use Rattle.paper.specs.Image.{sound}
use Rattle.marks.specs.Shown.{table}
use Rattle.image.proofs.sound.Goals as goal

pub returns-then-all : goal.returns-then-all
unfolding sound
returns-then-all c =
    let image = c.args.view.now.image.now in
    let t = table c.args.view.now in
    let nodes = all_below (λ x. ltb (byte_at image x) 8) t.nodes c.all.ensures.ran (search rules) (λ x b q k. search (rules, tests)) in
    rw (sym nodes ∙ c.if-all.true) (all_below _ _ c.all-then-all.ensures.ran (search rules) (λ x b q k. search (rules, tests)))

pub returns-else-all : goal.returns-else-all
unfolding sound
returns-else-all c =
    let image = c.args.view.now.image.now in
    let t = table c.args.view.now in
    let nodes = all_below (λ x. ltb (byte_at image x) 8) t.nodes c.all.ensures.ran (search rules) (λ x b q k. search (rules, tests)) in
    rw (sym nodes ∙ c.if-all.false) c.if-all.false

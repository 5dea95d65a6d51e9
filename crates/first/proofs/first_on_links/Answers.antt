use Rattle.std.proofs.Common.{rules, arith, ◌≡◌, ◌*◌, sym, ◌∙◌}
use Rattle.marks.specs.Shown.{table, shown}
use Rattle.first.proofs.Links.{nearest_pass, nearest_keep, nearest_take, least_on_links}
use Rattle.first.proofs.first_on_links.Goals as goal
use Rattle.first.proofs.first_on_links.Goals.{then-link_possible+then-is_none_or, then-link_possible+else-is_none_or, else-link_possible}

pub loop-back-preserved : goal.loop-back-preserved
loop-back-preserved c =
    let t = table c.args.view.now in
    let s = shown c.args.view.now in
    let i = c.loop-link.link in
    let k = c.loop-back.back-index in
    let h = c.loop-back-test.true in
    let before = c.loop-back.invariant in
    elim c.if-link_possible.branch [
      | then-link_possible+then-is_none_or w ↦
          rw w.first-is (nearest_take t s c.args.kind i k h _ _ w.pair-here.ensures (sym c.link_possible.ensures ∙ w.if-link_possible.true) (search rules) before)
      | then-link_possible+else-is_none_or w ↦ rw w.first-is (nearest_keep t s c.args.kind i k h c.loop-back.first (search rules) before)
      | else-link_possible w ↦ rw w.first-is (nearest_pass t s c.args.kind i k h _ (sym c.link_possible.ensures ∙ w.if-link_possible.false) before)
    ]

pub returns : goal.returns
returns c =
    let all : 2 * c.loop-link.link ≡ 2 * (table c.args.view.now).links = omega arith in
    least_on_links (table c.args.view.now) (shown c.args.view.now) c.args.kind c.loop-link.first c.map.result (rw (← all) c.loop-link.invariant) (search rules)

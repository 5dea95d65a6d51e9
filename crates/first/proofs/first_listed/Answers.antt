use Rattle.std.proofs.Common.{arith}
use Rattle.first.proofs.Order.{none_behind, first_behind}
use Rattle.first.proofs.Heads.{heads, leads}
use Rattle.first.proofs.first_listed.Goals as goal

pub returns-in-Some : goal.returns-in-Some
returns-in-Some c = heads c.args.view.now c.in-Some.step (omega arith) c.in-Some.ensures

pub returns-in-Some-first_on_links : goal.returns-in-Some-first_on_links
returns-in-Some-first_on_links c =
    let found = c.in-Some-first_on_links in
    heads c.args.view.now found.step (omega arith) (first_behind (omega arith) c.in_default.ensures found.ensures)

pub returns-in-Some-first_on_links-2 : goal.returns-in-Some-first_on_links-2
returns-in-Some-first_on_links-2 c =
    let none = none_behind c.in_default.ensures c.in_default-first_on_links.ensures in
    let found = c.in-Some-first_on_links-2 in
    heads c.args.view.now found.step (omega arith) (first_behind (omega arith) none found.ensures)

pub returns-in-Some-first_on_links-3 : goal.returns-in-Some-first_on_links-3
returns-in-Some-first_on_links-3 c =
    let none = none_behind (none_behind c.in_default.ensures c.in_default-first_on_links.ensures) c.in_default-first_on_links-2.ensures in
    let found = c.in-Some-first_on_links-3 in
    heads c.args.view.now found.step (omega arith) (first_behind (omega arith) none found.ensures)

pub returns : goal.returns
returns c =
    let none = none_behind (none_behind (none_behind c.in_default.ensures c.in_default-first_on_links.ensures) c.in_default-first_on_links-2.ensures) c.in_default-first_on_links-3.ensures in
    leads c.args.view.now c.first_at_nodes-2.result none c.first_at_nodes-2.ensures

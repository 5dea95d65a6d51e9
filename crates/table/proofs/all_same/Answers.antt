-- `all_same` meets its contract: what `all` says of the bytes in turn is said of their places.
use Rattle.std.proofs.Common.{rules, tests, get_or, eqb, ◌∙◌}
use Rattle.std.proofs.lemmas.Iterator.{YieldsList-from_slice}
use Rattle.std.proofs.lemmas.Iterator.Search.{all_from_yields_List}
use Rattle.counting.proofs.Ranges.{list_all_is_all}
use Rattle.table.proofs.all_same.Goals as goal

pub returns : goal.returns
returns c =
    let labels = c.args.labels.now in
    all_from_yields_List (λ x. eqb x (get_or labels 0 0)) _ _ c.all.result c.all.ensures.ran (YieldsList-from_slice labels c.iter.ensures.rest) (λ x b q k. search (rules, tests))
    ∙ list_all_is_all 0 labels _

use Rattle.std.proofs.Common.{eqb, unwrap_or, ap, ◌∙◌, rules, tests}
use Rattle.std.specs.List.{find}
use Rattle.std.proofs.lemmas.Iterator.{YieldsList-from_slice}
use Rattle.std.proofs.lemmas.Iterator.Search.{find_from_yields_List}
use Rattle.paper.specs.Layouts.{table_of, entry}
use Rattle.layout.specs.Rows.{no_row}
use Rattle.layout.proofs.Laws.{found}
use Rattle.layout.proofs.row_of.Goals as goal

pub returns : goal.returns
unfolding entry
returns c =
    let n = c.args.number in
    let f = find_from_yields_List (λ r. eqb r.0 n) c.find.new.self _ c.find.result c.find.ensures.ran (YieldsList-from_slice c.rows_of.result.now c.iter.ensures.rest) (λ x b k. search (rules, tests)) in
    c.unwrap_or.ensures ∙ ap (λ x. unwrap_or x no_row) (c.copied.ensures ∙ f ∙ ap (find (λ r. eqb r.0 n)) c.rows_of.ensures) ∙ found n (table_of c.args.l)

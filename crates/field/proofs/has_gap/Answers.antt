use Rattle.std.proofs.Common.{rules, tests, arith, false, ◌∙◌}
use Rattle.std.proofs.lemmas.Iterator.Consumers.{fold_from_yields_List}
use Rattle.field.proofs.Windows.{from_windows, passing, is_gap, three_windows}
use Rattle.field.proofs.has_gap.Goals as goal

pub returns : goal.returns
returns c =
    fold_from_yields_List _ (passing is_gap) false c.fold.result c.fold.ensures.ran
    (from_windows 3 c.args.s.now (omega arith) c.windows.ensures.size c.windows.ensures.rest) (λ a x b q k. search (rules, tests))
    ∙ three_windows c.args.s.now

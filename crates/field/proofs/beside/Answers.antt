use Rattle.std.proofs.Common.{rules, tests, arith, false, ◌∙◌}
use Rattle.std.proofs.lemmas.Iterator.Consumers.{fold_from_yields_List}
use Rattle.field.proofs.Windows.{from_windows, passing, is_pair, two_windows}
use Rattle.field.proofs.beside.Goals as goal

pub returns : goal.returns
returns c =
    fold_from_yields_List _ (passing (is_pair c.args.a c.args.b)) false c.fold.result c.fold.ensures.ran
    (from_windows 2 c.args.s.now (omega arith) c.windows.ensures.size c.windows.ensures.rest) (λ a x b q k. search (rules, tests))
    ∙ two_windows c.args.a c.args.b c.args.s.now

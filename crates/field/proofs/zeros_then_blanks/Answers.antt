use Rattle.std.proofs.Common.{rules, tests, ◌∙◌}
use Rattle.std.proofs.lemmas.Iterator.{YieldsList-from_slice}
use Rattle.std.proofs.lemmas.Iterator.Adapters.{YieldsList-from_skip_while}
use Rattle.std.proofs.lemmas.Iterator.Search.{all_from_yields_List}
use Rattle.paper.specs.Bytes.{is_zero, is_space}
use Rattle.field.proofs.Spaces.{after_zeros}
use Rattle.field.proofs.zeros_then_blanks.Goals as goal

pub returns : goal.returns
returns c =
    all_from_yields_List is_space _ _ c.all.result c.all.ensures.ran
    (YieldsList-from_skip_while _ _ _ is_zero _ (λ x b q k. search (rules, tests)) (YieldsList-from_slice c.args.s.now cc) c.skip_while.ensures.closure c.skip_while.ensures.done_skipping)
    (λ x b q k. search (rules, tests))
    ∙ after_zeros c.args.s.now

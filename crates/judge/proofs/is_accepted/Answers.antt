use Rattle.std.proofs.Common.{rules, tests, ℕ, Option, eqb, sym, ap, ◌∙◌}
use Rattle.std.proofs.lemmas.Iterator.{YieldsList-from_slice}
use Rattle.std.proofs.lemmas.Iterator.Search.{any_from_yields_List}
use Rattle.judge.specs.Seen.{some_among}
use Rattle.judge.proofs.is_accepted.Goals as goal

pub returns : goal.returns
returns c =
    let a = c.args in
    any_from_yields_List (eqb c.in-Some.n) _ _ c.any.result c.any.ensures.ran (YieldsList-from_slice a.accepted.now cc) (λ x b q k. search (rules, tests))
    ∙ ap (λ (n : Option ℕ). some_among n a.accepted.now) (sym c.in-Some.is)

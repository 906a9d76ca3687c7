use Rattle.std.proofs.Common.{rules, tests, ap, ◌∙◌}
use Rattle.std.proofs.lemmas.Iterator.Consumers.{YieldsList-from_first}
use Rattle.std.proofs.lemmas.Iterator.Search.{find_from_yields_List}
use Rattle.paper.specs.declared.Kind.TheVariants.{Auth}
use Rattle.paper.specs.Walk.{is}
use Rattle.walk.specs.Own.{seen, others_left}
use Rattle.births.proofs.First.{bytes_or, found}
use Rattle.births.proofs.first_auth.Goals as goal

pub returns : goal.returns
returns c =
    let f = find_from_yields_List (λ p. is Auth p.0) c.find.new.self _ c.find.result c.find.ensures.ran (YieldsList-from_first seen others_left _ c.others_from.ensures) (λ x b k. search (rules, tests)) in
    let e = ap bytes_or f ∙ found _ in
    search (rules, tests)

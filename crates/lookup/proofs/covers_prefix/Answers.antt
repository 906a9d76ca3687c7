use native.Mathlib.Omega.{arith}
use Rattle.std.proofs.Common.{rules, tests}
use Rattle.std.proofs.lemmas.Iterator.Search.{any_from_yields_List}
use Rattle.paper.specs.Conditions.{covers}
use Rattle.lines.proofs.Chunks.{lines_come}
use Rattle.lookup.proofs.covers_prefix.Goals as goal

pub returns : goal.returns
returns c =
    any_from_yields_List (covers c.args.prefix.now) _ _ _ c.any.ensures.ran
    (lines_come 8 c.args.rows.now (omega arith) _ c.chunks_exact.ensures.size c.chunks_exact.ensures.rest) (λ x b q k. search (rules, tests))

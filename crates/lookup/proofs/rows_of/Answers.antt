use native.Mathlib.Omega.{arith}
use Prim.Native.Nat.{◌<◌}
use Rattle.std.proofs.Common.{rules, tests}
use Rattle.std.proofs.lemmas.Iterator.Search.{YieldsList-from_take_while}
use Rattle.std.proofs.lemmas.Iterator.Consumers.{count_from_yields_List}
use Rattle.paper.specs.Pack.{keyed}
use Rattle.lines.proofs.Chunks.{lines_come}
use Rattle.lookup.proofs.Runs.{rows_told, rows_none}
use Rattle.lookup.proofs.rows_of.Goals as goal

pub returns-then-width-eq0 : goal.returns-then-width-eq0
returns-then-width-eq0 c = rows_none c.args.width c.args.key.now c.args.block.now c.if-width-eq0.true

pub returns : goal.returns
returns c =
    let some : 0 < c.args.width = omega arith in
    let found =
    count_from_yields_List c.take_while.result c.count-n.result c.count-n.ensures.ran
    (YieldsList-from_take_while _ (keyed c.args.key.now)
    (lines_come c.args.width c.rest_of-rest.result.now some _ (cc) (cc)) c.take_while.ensures.closure c.take_while.ensures.done (λ x b q k. search (rules, tests))) in
    let told = rows_told c.args.width c.args.key.now c.args.block.now some in
    search rules

use mathlib.Core.Path.{◌≡◌}
use mathlib.Core.Bool.{true, ◌&&◌}
use Rattle.std.proofs.Common.{rules}
use Rattle.paper.specs.Fields.{valid_date}
use Rattle.paper.specs.Answer.{file_name}
use Rattle.route.proofs.Laws.{checked, broken, by_twelve}
use Rattle.route.proofs.choose.Goals as goal
use Rattle.route.proofs.choose.Goals.{then-valid_date, else-valid_date}

pub returns-in_default : goal.returns-in_default
returns-in_default c =
    let a = c.args in
    let well = checked a.pack.now c.check.result c.check.ensures (search rules) in
    let fine : (valid_date a.date.now && file_name a.name.now) ≡ true =
    elim c.if-valid_date.branch [ then-valid_date w ↦ search rules | else-valid_date w ↦ search rules ] in
    broken a.t.now a.pack.now a.date.now a.name.now c.if-t-gt65536.false well fine _ c.structure.ensures c.in_default.is

pub returns : goal.returns
returns c =
    let a = c.args in
    let well = checked a.pack.now c.check.result c.check.ensures (search rules) in
    let fine : (valid_date a.date.now && file_name a.name.now) ≡ true =
    elim c.if-valid_date.branch [ then-valid_date w ↦ search rules | else-valid_date w ↦ search rules ] in
    by_twelve a.t.now a.pack.now a.date.now a.name.now c.if-t-gt65536.false well fine _ c.structure.ensures c.in-Some.n _ _ c.in-Some.is c.by_digits.ensures (search rules)

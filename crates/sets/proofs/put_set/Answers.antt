use Rattle.sets.proofs.Laws.{set_laid}
use Rattle.sets.proofs.put_set.Goals as goal

pub returns-then-errors-out : goal.returns-then-errors-out
returns-then-errors-out c =
    let a = c.args in
    set_laid a.main.now a.t.now a.date.now a.j a.list.now a.out.now c.min-errors.result c.min-errors.ensures c.shown-ssn.result.now c.put_set_key.new.out c.put_errors.new.out c.if-errors-out.true c.shown-ssn.ensures c.put_set_key.ensures c.put_errors.ensures

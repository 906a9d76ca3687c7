use Rattle.std.proofs.Common.{◌<◌, rules}
use Rattle.summary.proofs.Laws.{kept_run}
use Rattle.summary.proofs.past_run.Goals as goal

pub returns : goal.returns
returns c =
    let a = c.args in
    let fits : a.later < 18446744073709551616 = search rules in
    kept_run a.own.now a.from a.to a.later a.fields.now c.requires.is_blank c.requires.is_run fits

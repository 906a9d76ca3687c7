use Rattle.std.proofs.Common.{refl}
use Rattle.sets.proofs.Laws.{next_record, no_record}
use Rattle.sets.proofs.put_errors.Goals as goal

pub loop-broken-preserved : goal.loop-broken-preserved
loop-broken-preserved c =
    let a = c.args in
    let l = c.loop-broken in
    next_record a.ssn.now a.t.now a.list.now a.end a.out.now l.out l.n l.broken-index l.invariant _ _ c.put_broken-n.result c.put_broken-n.new.out c.loop-broken-test.true refl c.put_broken-n.ensures.value c.put_broken-n.ensures.out_after

pub returns : goal.returns
returns c =
    let a = c.args in
    let l = c.loop-broken in
    no_record a.ssn.now a.t.now a.list.now a.end a.out.now l.out l.n l.broken-index l.invariant c.loop-broken-test.false

use Rattle.std.proofs.Common.{arith}
use Rattle.judge.specs.Kept.{held}
use Rattle.judge.proofs.Found.{form_size, form_fits, ran_start, ran_on, ran_end}
use Rattle.judge.proofs.with_others.Goals as goal

pub overflow_add-to : goal.overflow_add-to
overflow_add-to c =
    let a = c.args in
    let q = c.requires in
    omega (arith, form_fits a.t.now a.at a.form.now q.0 q.1)

pub loop-record-init : goal.loop-record-init
loop-record-init c =
    let a = c.args in
    let q = c.requires in
    ran_start a.t.now a.at a.form.now q.0 q.1 a.banks.now a.payer.now a.spouse.now a.facts (held a.list.now.items a.first) c.into_iter-record-iterator.result.left.now q.2 q.3 (cc)

pub loop-record-preserved : goal.loop-record-preserved
loop-record-preserved c =
    let a = c.args in
    let q = c.requires in
    let e = c.collected-found.ensures in
    ran_on a.banks.now a.form.now a.payer.now a.spouse.now a.facts a.t.now _ _ _ _ _ c.loop-record.invariant _ _ _ c.in-Some.ensures.steps _ _
    (form_size a.t.now a.at a.form.now q.0 q.1) c.bank_of-bank.ensures c.others-set.ensures _ _ e.result_after e.bounds.0 e.bounds.1 c.counted-before.ensures

pub returns : goal.returns
returns c =
    let a = c.args in
    ran_end a.banks.now a.form.now a.payer.now a.spouse.now a.facts a.t.now _ _ _ _ _ c.loop-record.invariant c.in-None.ensures.steps.0

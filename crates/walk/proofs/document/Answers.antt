use Rattle.std.proofs.Common.{arith}
use Rattle.walk.proofs.Own.{next_own, next_some}
use Rattle.walk.proofs.Facts.{opened_fits, known_start, no_document, known_on, known_end}
use Rattle.walk.proofs.document.Goals as goal

pub returns-then-not-opens : goal.returns-then-not-opens
returns-then-not-opens c = no_document c.args.t.now c.args.at _ c.head_at-first.ensures _ c.opens.ensures c.if-not-opens.true

pub overflow_add-at : goal.overflow_add-at
overflow_add-at c =
    let z = opened_fits c.args.t.now c.args.at c.head_at-first.result c.head_at-first.ensures c.opens.result c.opens.ensures c.if-not-opens.false in
    omega arith

pub loop-record-init : goal.loop-record-init
loop-record-init c = known_start c.args.t.now c.args.at _ c.head_at-first.ensures _ c.opens.ensures _ c.if-not-opens.false (cc)

pub loop-record-preserved : goal.loop-record-preserved
loop-record-preserved c =
    let o = c.in-Some.ensures.steps in
    known_on _ _ _ _ _ _ c.loop-record.invariant _ _ _ (next_own _ _ _ _ o) (next_some _ _ _ _ o) c.with_record-facts.ensures

pub returns : goal.returns
returns c = known_end _ _ _ _ _ _ c.loop-record.invariant c.in-None.ensures.steps.0

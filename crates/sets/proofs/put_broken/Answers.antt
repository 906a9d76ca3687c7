use Rattle.std.proofs.Common.{rules, arith}
use Rattle.sets.proofs.Laws.{passed, one_more, all_done}
use Rattle.sets.proofs.put_broken.Goals as goal
use Rattle.sets.proofs.put_broken.Goals.{then-left-eq1+then-n-end, else-left-eq1}

pub returns-clause-value : goal.returns-clause-value
returns-clause-value c =
    (all_done c.args.ssn.now c.args.t.now c.args.broken.now c.args.end c.texts-text-items.result.now c.texts-text-items.ensures c.args.out.now c.loop-text.out c.args.first c.loop-text.n c.loop-text.left c.loop-text.text-index c.loop-text.invariant c.loop-text-test.false).0

pub returns-clause-out_after : goal.returns-clause-out_after
returns-clause-out_after c =
    (all_done c.args.ssn.now c.args.t.now c.args.broken.now c.args.end c.texts-text-items.result.now c.texts-text-items.ensures c.args.out.now c.loop-text.out c.args.first c.loop-text.n c.loop-text.left c.loop-text.text-index c.loop-text.invariant c.loop-text-test.false).1

pub loop-text-preserved : goal.loop-text-preserved
loop-text-preserved c =
    let a = c.args in
    let l = c.loop-text in
    let e = c.texts-text-items in
    elim c.if-left-eq1.branch [
      | then-left-eq1+then-n-end w ↦ rw (w.out-is, w.n-is)
          (one_more a.ssn.now a.t.now a.broken.now a.end e.result.now e.ensures a.out.now l.out a.first l.n l.left l.text-index l.invariant c.model_of-model.result _ w.put_error.new.out c.loop-text-test.true w.if-left-eq1.true w.if-n-end.true (search rules) (search rules) w.put_error.ensures)
      | else-left-eq1 w ↦ rw (w.out-is, w.n-is)
          (passed a.ssn.now a.t.now a.broken.now a.end e.result.now e.ensures a.out.now l.out a.first l.n l.left l.text-index l.invariant c.loop-text-test.true (λ h. omega (arith, w.else-left-eq1.either)))
    ]

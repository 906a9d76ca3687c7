use Rattle.std.proofs.Common.{rules, tests, arith}
use Rattle.std.proofs.lemmas.List.{take_rest}
use Rattle.walk.proofs.Loops.{stepped, shorter, other_step, scan_no, scan_on, scan_end}
use Rattle.walk.proofs.structure.Goals as goal

pub returns-in_default : goal.returns-in_default
returns-in_default c = scan_no _ _ _ _ c.loop-rest.invariant c.step_in.result c.step_in.ensures (other_step c.step_in.result c.in_default.not-Record) (grind (arith, tests))

pub slice_bounds-rest-count : goal.slice_bounds-rest-count
slice_bounds-rest-count c = let h = stepped _ c.in-Record.record _ c.step_in.ensures c.in-Record.is in omega arith

pub slice_bounds-rest-start : goal.slice_bounds-rest-start
slice_bounds-rest-start c = let h = stepped _ c.in-Record.record _ c.step_in.ensures c.in-Record.is in search rules

pub loop-rest-smaller : goal.loop-rest-smaller
loop-rest-smaller c = shorter _ _ (stepped _ c.in-Record.record _ c.step_in.ensures c.in-Record.is)

pub loop-rest-preserved : goal.loop-rest-preserved
loop-rest-preserved c =
    let h = stepped _ c.in-Record.record _ c.step_in.ensures c.in-Record.is in
    rw take_rest (scan_on _ _ _ _ c.loop-rest.invariant _ _ _ _ h c.next-order.ensures c.opens.ensures (search rules))

pub returns : goal.returns
returns c = scan_end _ _ _ _ c.loop-rest.invariant _ (grind (arith, tests)) c.conclude.ensures

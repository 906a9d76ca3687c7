use Rattle.std.proofs.Common.{refl, rules}
use Rattle.ack.proofs.Tour.{need_start, need_on, need_end, tour_fits}
use Rattle.ack.proofs.Sound.file_size.Goals as goal

pub loop-init : goal.loop-init
loop-init c = need_start _ _ _ _ _ _ c.args.self.begins refl c.new-past.ensures

pub overflow_mul-size : goal.overflow_mul-size
overflow_mul-size c =
    let f = tour_fits _ _ _ _ _ _ _ _ c.loop.invariant.tour c.loop-test.true _ c.judge-j.ensures.value in
    search rules

pub overflow_add-size : goal.overflow_add-size
overflow_add-size c =
    let f = tour_fits _ _ _ _ _ _ _ _ c.loop.invariant.tour c.loop-test.true _ c.judge-j.ensures.value in
    search rules

pub overflow_add-size-in-loop : goal.overflow_add-size-in-loop
overflow_add-size-in-loop c =
    let f = tour_fits _ _ _ _ _ _ _ _ c.loop.invariant.tour c.loop-test.true _ c.judge-j.ensures.value in
    let s = c.loop.invariant.small in
    search rules

pub overflow_add-at : goal.overflow_add-at
overflow_add-at c =
    let f = tour_fits _ _ _ _ _ _ _ _ c.loop.invariant.tour c.loop-test.true _ c.judge-j.ensures.value in
    search rules

pub loop-preserved : goal.loop-preserved
loop-preserved c = need_on _ _ _ _ _ _ _ _ _ c.loop.invariant c.loop-test.true _ c.judge-j.ensures.value _ _ c.judge-j.ensures.past_becomes c.judge-j.ensures.row_becomes

pub returns : goal.returns
returns c = need_end _ _ _ _ _ _ _ _ _ c.loop.invariant c.loop-test.false

use Rattle.std.proofs.Common.{◌≡◌, ◌≤◌, refl, rules, ◌∙◌, arith}
use Rattle.paper.specs.Bytes.{bit}
use Rattle.paper.specs.Judge.{is_a}
use Rattle.ack.proofs.Tour.{bit_le, write_start, write_fits, write_on, write_end, tour_fits}
use Rattle.ack.proofs.Sound.write_sets.Goals as goal

pub loop-init : goal.loop-init
loop-init c = write_start _ _ _ _ _ _ _ c.args.self.begins refl c.new-past.ensures

pub overflow_add-end : goal.overflow_add-end
overflow_add-end c =
    let f = tour_fits _ _ _ _ _ _ _ _ c.loop.invariant.tour c.loop-test.true _ c.judge-j.ensures.value in
    search rules

pub slice_bounds-put_set-end-in-loop : goal.slice_bounds-put_set-end-in-loop
slice_bounds-put_set-end-in-loop c =
    let f = tour_fits _ _ _ _ _ _ _ _ c.loop.invariant.tour c.loop-test.true _ c.judge-j.ensures.value in
    search rules

pub overflow_mul-to : goal.overflow_mul-to
overflow_mul-to c =
    let f = tour_fits _ _ _ _ _ _ _ _ c.loop.invariant.tour c.loop-test.true _ c.judge-j.ensures.value in
    search rules

pub overflow_add-to : goal.overflow_add-to
overflow_add-to c =
    let f = tour_fits _ _ _ _ _ _ _ _ c.loop.invariant.tour c.loop-test.true _ c.judge-j.ensures.value in
    search rules

pub overflow_add-to-in-loop : goal.overflow_add-to-in-loop
overflow_add-to-in-loop c =
    let f = tour_fits _ _ _ _ _ _ _ _ c.loop.invariant.tour c.loop-test.true _ c.judge-j.ensures.value in
    let w = write_fits _ _ _ _ _ _ _ _ _ _ _ _ c.loop.invariant c.loop-test.true _ c.judge-j.ensures.value c.requires in
    search rules

pub loop-preserved : goal.loop-preserved
loop-preserved c =
    let one : c.from-accepted.result ≡ bit (is_a c.judge-j.result.letter) = search rules in
    let few : c.from-accepted.result ≤ 1 = omega (arith, one, bit_le (is_a c.judge-j.result.letter)) in
    write_on _ _ _ _ _ _ _ _ _ _ _ _ c.loop.invariant c.loop-test.true _ c.judge-j.ensures.value c.requires _ _ _ _ _
    c.judge-j.ensures.past_becomes c.judge-j.ensures.row_becomes (c.as_slice.ensures.value ∙ c.judge-j.ensures.list_after) one few c.put_set.ensures

pub returns : goal.returns
returns c = write_end _ _ _ _ _ _ _ _ _ _ _ _ c.loop.invariant c.loop-test.false

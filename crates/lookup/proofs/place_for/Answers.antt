use mathlib.Core.Path.{◌≡◌, subst}
use Prim.Native.Nat.{ℕ, ◌+◌, ◌*◌, ◌≤◌, ◌<◌}
use native.Mathlib.Omega.{arith}
use lib.ListN.{length}
use Rattle.paper.specs.Bytes.{Bytes}
use Rattle.lookup.specs.Find.{mid, count_for}
use Rattle.lookup.proofs.Bisect.{done}
use Rattle.lookup.proofs.Runs.{row_fits, key_fits, place_start, halve_up, halve_down}
use Rattle.lookup.proofs.place_for.Goals as goal

-- the line in the middle lies within the block, and has the key's width
room : (w n low high : ℕ) (key s : Bytes) → n ≡ count_for w key s → low < high → high ≤ n → (mid low high * w + w ≤ length s) × (length key ≤ w)
room w n low high key s e h l = let m : mid low high < count_for w key s = subst (λ (k : ℕ). mid low high < k) e (omega arith) in (row_fits w key s (mid low high) m, key_fits w key s (mid low high) m)

pub loop-low-init : goal.loop-low-init
loop-low-init c = (omega arith, omega arith, place_start _ _ _ _ c.requires)

pub overflow_mul-at : goal.overflow_mul-at
overflow_mul-at c =
    let r = room c.args.width c.args.n c.loop-low.low c.loop-low.high c.args.key.now c.args.block.now c.requires c.loop-low-test.true c.loop-low.invariant.1 in
    omega (arith, r.0)

pub overflow_add-to : goal.overflow_add-to
overflow_add-to c =
    let r = room c.args.width c.args.n c.loop-low.low c.loop-low.high c.args.key.now c.args.block.now c.requires c.loop-low-test.true c.loop-low.invariant.1 in
    omega (arith, r.0, r.1)

pub slice_bounds-key_before-end : goal.slice_bounds-key_before-end
slice_bounds-key_before-end c =
    let r = room c.args.width c.args.n c.loop-low.low c.loop-low.high c.args.key.now c.args.block.now c.requires c.loop-low-test.true c.loop-low.invariant.1 in
    omega (arith, r.0, r.1)

pub loop-low-preserved-then-key_before : goal.loop-low-preserved-then-key_before
loop-low-preserved-then-key_before c =
    (omega arith, omega arith, halve_up _ _ _ _ _ c.args.key.now c.args.block.now _ c.loop-low.invariant.2 c.loop-low.invariant.1 c.loop-low-test.true c.key_before.ensures c.if-key_before.true)

pub loop-low-preserved : goal.loop-low-preserved
loop-low-preserved c =
    (omega arith, omega arith, halve_down _ _ _ _ _ c.args.key.now c.args.block.now _ c.loop-low.invariant.2 c.loop-low.invariant.1 c.loop-low-test.true c.key_before.ensures c.if-key_before.false)

pub returns-clause-value : goal.returns-clause-value
returns-clause-value c = done _ _ _ _ _ c.loop-low.invariant.2 c.loop-low-test.false

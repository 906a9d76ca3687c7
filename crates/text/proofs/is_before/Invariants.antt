use Rattle.std.proofs.Common.{◌≡◌, ◌+◌, length}
use Rattle.paper.specs.Bytes.{before}
use Rattle.text.proofs.is_before.Given as goal

abbrev pub invariant-loop-x : goal.invariant-loop-x
invariant-loop-x l =
    (before l.fn.a l.fn.b ≡ before l.x-iterator.a.rest.now l.x-iterator.b.rest.now)
    × (length l.fn.a + length l.x-iterator.b.rest.now ≡ length l.fn.b + length l.x-iterator.a.rest.now)

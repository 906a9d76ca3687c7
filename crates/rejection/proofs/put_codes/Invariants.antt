use Rattle.std.proofs.Common.{◌≡◌, ◌+◌, ◌*◌, drop}
use Rattle.paper.specs.Bytes.{laid}
use Rattle.paper.specs.File.{whole_errors}
use Rattle.rejection.proofs.put_codes.Given as goal

abbrev pub invariant-loop-i : goal.invariant-loop-i
invariant-loop-i l = laid l.out (120 * (l.i + 1)) (whole_errors (l.i + 1) (drop l.i l.codes)) ≡ laid l.initial.out 120 (whole_errors 1 l.codes)

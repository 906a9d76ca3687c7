use Rattle.std.proofs.Common.{◌≤◌}
use Rattle.vectors.proofs.main.Given as goal

abbrev pub invariant-loop-i : goal.invariant-loop-i
invariant-loop-i l = l.agreed ≤ l.i-counter

use Rattle.std.proofs.Common.{length}
use Rattle.walk.proofs.Loops.{Scanned}
use Rattle.walk.proofs.structure.Given as goal

abbrev pub invariant-loop-rest : goal.invariant-loop-rest
invariant-loop-rest l = Scanned l.t l.order l.docs l.rest

abbrev pub decreases-loop-rest : goal.decreases-loop-rest
decreases-loop-rest l = length l.rest

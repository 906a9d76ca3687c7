use Rattle.sets.proofs.Laws.{Rowing}
use Rattle.sets.proofs.put_errors.Given as goal

abbrev pub invariant-loop-broken : goal.invariant-loop-broken
invariant-loop-broken l = Rowing l.ssn l.t l.list l.end l.initial.out l.out l.n l.broken-index

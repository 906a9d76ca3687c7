use Rattle.sets.proofs.Laws.{Going}
use Rattle.sets.proofs.put_broken.Given as goal

abbrev pub invariant-loop-text : goal.invariant-loop-text
invariant-loop-text l = Going l.ssn l.t l.broken l.end l.initial.out l.out l.first l.n l.left l.text-index

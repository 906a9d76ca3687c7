use Rattle.paper.specs.Pack.{lent}
use Rattle.judge.specs.Judged.{searched}
use Rattle.ack.proofs.Tour.{Writing}
use Rattle.ack.proofs.Sound.write_sets.Given as goal

abbrev pub invariant-loop : goal.invariant-loop
invariant-loop l = Writing (searched (lent l.self.reference)) l.self.date.now l.self.t.now l.self.n l.initial.out l.past l.row l.at l.to l.accepted l.counter l.out

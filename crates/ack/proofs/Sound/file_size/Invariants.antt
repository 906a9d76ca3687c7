use Rattle.paper.specs.Pack.{lent}
use Rattle.judge.specs.Judged.{searched}
use Rattle.ack.proofs.Tour.{Needing}
use Rattle.ack.proofs.Sound.file_size.Given as goal

abbrev pub invariant-loop : goal.invariant-loop
invariant-loop l = Needing (searched (lent l.self.reference)) l.self.date.now l.self.t.now l.self.n l.past l.row l.at l.size l.counter

use Rattle.walk.proofs.Facts.{Known}
use Rattle.walk.proofs.document.Given as goal

abbrev pub invariant-loop-record : goal.invariant-loop-record
invariant-loop-record l = Known l.t l.at l.first l.size l.facts l.record-iterator.left.now

use Rattle.std.proofs.Common.{◌+◌, [], map, length, drop}
use Rattle.paper.specs.Conditions.{sight}
use Rattle.walk.specs.Parts.{doc_here}
use Rattle.judge.specs.Kept.{held, added}
use Rattle.judge.specs.Judged.{item_in, broke_from}
use Rattle.judge.proofs.Found.{Ran}
use Rattle.judge.proofs.with_others.Given as goal

abbrev pub invariant-loop-record : goal.invariant-loop-record
invariant-loop-record l =
    Ran l.banks (sight l.form l.payer l.spouse [] [] [] [] l.facts) l.t
    (added (held l.initial.list.items l.initial.found) (broke_from (sight l.form l.payer l.spouse [] [] [] [] l.facts) (l.at + length l.form) 0 0 (map (item_in l.banks) (doc_here (drop l.at l.t)).others)))
    (held l.list.items l.found) l.before l.to l.record-iterator.left.now

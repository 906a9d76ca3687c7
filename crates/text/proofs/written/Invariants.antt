use Rattle.std.proofs.Common.{◌≡◌, ◌++◌, length, drop}
use Rattle.paper.specs.Bytes.{written}
use Rattle.text.proofs.written.Given as goal

abbrev pub invariant-loop-i : goal.invariant-loop-i
invariant-loop-i g l = (length l.text ≡ g.row.W) × (written l.i l.left ++ drop l.i l.text ≡ written g.row.W l.n)

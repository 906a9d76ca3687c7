use Rattle.std.proofs.Common.{◌≡◌, ◌≤◌, drop}
use Rattle.paper.specs.Bytes.{run, digit_on}
use Rattle.text.specs.Words.{most}
use Rattle.text.proofs.value.Given as goal

abbrev pub invariant-loop-x : goal.invariant-loop-x
invariant-loop-x l = (l.n ≤ most l.x-index) × (run digit_on 0 l.s ≡ run digit_on l.n (drop l.x-index l.s))

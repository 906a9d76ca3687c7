use Rattle.std.proofs.Common.{refl}
use Rattle.kinds.specs.Kinds.{table}
use Rattle.kinds.proofs.table.Goals as goal

pub returns : goal.returns
unfolding table
returns c = refl

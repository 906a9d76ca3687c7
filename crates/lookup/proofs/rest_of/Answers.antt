use Rattle.std.proofs.Common.{rules}
use Rattle.lookup.proofs.Runs.{rest_told}
use Rattle.lookup.proofs.rest_of.Goals as goal

pub returns : goal.returns
returns c = let told = rest_told c.args.width c.args.key.now c.args.block.now in search rules

use Rattle.std.proofs.Common.{rules}
use Rattle.lookup.proofs.Runs.{line_told}
use Rattle.lookup.proofs.line_of.Goals as goal

pub returns-in-Some : goal.returns-in-Some
returns-in-Some c = let told = line_told c.args.width c.args.key.now c.args.block.now in search rules

pub returns-in_default : goal.returns-in_default
returns-in_default c = let told = line_told c.args.width c.args.key.now c.args.block.now in search rules

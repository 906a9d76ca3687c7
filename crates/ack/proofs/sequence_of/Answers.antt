use Rattle.ack.proofs.Ways.{other_codes}
use Rattle.ack.proofs.sequence_of.Goals as goal

pub returns : goal.returns
returns c = other_codes c.args.codes c.args.t.now c.through.result.now _ c.in_default.not-C0823 c.through.ensures c.lay.ensures

use Rattle.std.proofs.Common.{◌∙◌}
use Rattle.reply.proofs.Laws.{zeros_are}
use Rattle.reply.proofs.zeros_before.Goals as goal

pub returns : goal.returns
returns c = c.count_above.ensures ∙ zeros_are 6 c.args.n

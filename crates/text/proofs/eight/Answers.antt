use Rattle.text.proofs.Words.{part_bytes}
use Rattle.text.proofs.eight.Goals as goal

pub returns-in-Some-clause-s_value : goal.returns-in-Some-clause-s_value
returns-in-Some-clause-s_value c = part_bytes c.args.s.now c.args.at 8 (λ i. (c.type_inv.s i).fits)

pub returns-clause-s_value : goal.returns-clause-s_value
returns-clause-s_value c = part_bytes c.args.s.now c.args.at 8 (λ i. (c.type_inv.s i).fits)

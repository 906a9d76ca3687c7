use mathlib.Core.Logic.{inl, inr}
use Rattle.text.proofs.Laws.{first_ends, second_ends}
use Rattle.text.proofs.is_before.Goals as goal

pub returns : goal.returns
returns c = elim c.in-None.ensures.steps [
  | inl u ↦ first_ends _ _ _ _ c.loop-x.invariant.0 c.loop-x.invariant.1 u.1.0
  | inr u ↦ second_ends _ _ _ _ c.loop-x.invariant.0 c.loop-x.invariant.1 u.1.0
]

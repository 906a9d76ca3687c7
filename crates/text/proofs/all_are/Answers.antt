use Rattle.text.proofs.Eights.{eights_yes, eights_no}
use Rattle.text.proofs.all_are.Goals as goal

pub returns-then-all_same : goal.returns-then-all_same
returns-then-all_same c = eights_yes _ _ _ _ _ c.as_chunks.ensures.front c.as_chunks.ensures.back c.all_same.ensures _ c.if-all_same.true c.all_same-then-all_same.ensures

pub returns-else-all_same : goal.returns-else-all_same
returns-else-all_same c = eights_no _ _ _ _ _ c.as_chunks.ensures.front c.as_chunks.ensures.back c.all_same.ensures c.if-all_same.false

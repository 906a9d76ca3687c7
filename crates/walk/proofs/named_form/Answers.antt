use native.Mathlib.Omega.{arith}
use borrow.Author.Tests.{ne_eqb}
use Rattle.walk.proofs.Names.{form_by_lem}
use Rattle.walk.proofs.named_form.Goals as goal

pub returns-in_default : goal.returns-in_default
returns-in_default c = rw (
  form_by_lem _ _ c.name_at.ensures.value c.name_at.ensures.bytes,
  ne_eqb c.name_at.result 35322353438032 (λ e. omega arith),
  ne_eqb c.name_at.result 35322754119732 (λ e. omega arith),
)

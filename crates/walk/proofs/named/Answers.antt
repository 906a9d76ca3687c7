use native.Mathlib.Omega.{arith}
use borrow.Author.Tests.{ne_eqb}
use Rattle.walk.proofs.Names.{named_by}
use Rattle.walk.proofs.named.Goals as goal

pub returns-in-35322352980550 : goal.returns-in-35322352980550
returns-in-35322352980550 c = rw (named_by _ _ c.name_at.ensures.value c.name_at.ensures.bytes, c.in-35322352980550.is) c.named_form.ensures

pub returns-in-35322352653377 : goal.returns-in-35322352653377
returns-in-35322352653377 c = rw (named_by _ _ c.name_at.ensures.value c.name_at.ensures.bytes, c.in-35322352653377.is)

pub returns-in-35322352981331 : goal.returns-in-35322352981331
returns-in-35322352981331 c = rw (named_by _ _ c.name_at.ensures.value c.name_at.ensures.bytes, c.in-35322352981331.is)

pub returns-in-35529064400210 : goal.returns-in-35529064400210
returns-in-35529064400210 c = rw (named_by _ _ c.name_at.ensures.value c.name_at.ensures.bytes, c.in-35529064400210.is)

pub returns-in-35464857866836 : goal.returns-in-35464857866836
returns-in-35464857866836 c = rw (named_by _ _ c.name_at.ensures.value c.name_at.ensures.bytes, c.in-35464857866836.is)

pub returns-in-35469152834132 : goal.returns-in-35469152834132
returns-in-35469152834132 c = rw (named_by _ _ c.name_at.ensures.value c.name_at.ensures.bytes, c.in-35469152834132.is)

pub returns-in_default : goal.returns-in_default
returns-in_default c = rw (
  named_by _ _ c.name_at.ensures.value c.name_at.ensures.bytes,
  ne_eqb c.name_at.result 35322352980550 (λ e. omega arith),
  ne_eqb c.name_at.result 35322352653377 (λ e. omega arith),
  ne_eqb c.name_at.result 35322352981331 (λ e. omega arith),
  ne_eqb c.name_at.result 35529064400210 (λ e. omega arith),
  ne_eqb c.name_at.result 35464857866836 (λ e. omega arith),
  ne_eqb c.name_at.result 35469152834132 (λ e. omega arith),
)

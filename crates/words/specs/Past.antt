-- The numbers of a form, and what is known of an earlier one. Assumes nothing.
use Rattle.std.specs.Prelude.{ℕ, cond, [], take, Option, None, Some}
use Rattle.paper.specs.declared.Identity.{Identity}
use Rattle.paper.specs.declared.Layout.TheVariants.{L4868}
use Rattle.paper.specs.Bytes.{Bytes, digits, number, written}
use Rattle.paper.specs.Layouts.{field}

-- the number that up to 16 digits write; none where they are not digits
-- tied to the paper by `leaves` and `nearest` of judge/Seen
unfoldable pub number_if : Bytes → Option ℕ
number_if f = cond (digits f) (Some (number (take 16 f))) None

-- tied to the paper by `leaves` and `nearest` of judge/Seen
unfoldable pub identity_of : Bytes → Identity
identity_of form = record { ssn = number_if (field L4868 90 form); dsn = number_if (field L4868 7 form); dcn = number_if (field L4868 8 form) }

-- of a form that is not known
-- tied to the paper by `set_parts` of recordset/Laws
abbrev pub no_identity : Identity
no_identity = record { ssn = None; dsn = None; dcn = None }

-- the digits of an earlier number, no byte for none
-- tied to the paper by `nearest` of judge/Seen
unfoldable pub earlier : ℕ → Option ℕ → Bytes
earlier width None = []
earlier width (Some n) = written width n

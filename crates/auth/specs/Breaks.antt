-- Whether an authentication breaks a rule of its table. The rules on its head need not be told the taxpayer lines. Assumes nothing.
use Rattle.std.specs.Prelude.{ℕ, ◌/◌, ◌%◌, Bool}
use Rattle.paper.specs.declared.Facts.{Facts}
use Rattle.paper.specs.Bytes.{Bytes}
use Rattle.paper.specs.Conditions.{auth_holds}
use Rattle.auth.specs.declared.Asked.{Asked}
use Rattle.auth.specs.Asked.{field_holds}

-- tied to the paper by `breaks_held` of auth/Laws
abbrev pub breaks : Bytes → Bytes → Bytes → Bytes → Facts → ℕ → ℕ → Bool
breaks form own payer spouse whole before =
    λ (rule : ℕ). auth_holds (rule / 10000) (rule % 10000) form own payer spouse whole before

-- by what is asked, a rule from 0010 on; the line is the taxpayer's or the spouse's
abbrev pub breaks_asked : Asked → Bytes → Bytes → ℕ → Bool
breaks_asked a own line = λ (rule : ℕ). field_holds a own line (rule / 10000) (rule % 10000)

-- Whether a 4868 breaks a rule of its table. The rules on some fields need not be told what they do not look at. Assumes nothing.
use Rattle.std.specs.Prelude.{ℕ, ◌/◌, ◌%◌, Bool, false, leb, Option, Some, None}
use Rattle.paper.specs.declared.Facts.{Facts}
use Rattle.paper.specs.Bytes.{Bytes}
use Rattle.paper.specs.Pack.{lines_in}
use Rattle.paper.specs.Conditions.{sight, form_holds}
use Rattle.words.specs.Past.{earlier}

-- tied to the paper by `form_found` of judge/Whole
abbrev pub breaks : Bytes → Bytes → Bytes → Bytes → Option ℕ → Option ℕ → Bytes → Facts → ℕ → Bool
breaks form payer spouse zips dsn dcn date whole =
    λ (rule : ℕ). form_holds (rule / 10000) (rule % 10000) (sight form payer spouse (lines_in 8 zips) (earlier 16 dsn) (earlier 14 dcn) date whole)

-- a number, and it is not above the last digits of an earlier one
abbrev pub is_at_most : ℕ → Option ℕ → Option ℕ → Bool
is_at_most size None past = false
is_at_most size (Some n) None = false
is_at_most size (Some n) (Some last) = leb n (last % size)

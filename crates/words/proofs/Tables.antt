-- The set of a table's broken rules. Assumes nothing.
use Prim.Native.Nat.{ℕ, ◌+◌, ◌*◌, ◌%◌, ◌^◌}
use mathlib.Core.Bool.{Bool, true, false}
use mathlib.Core.Path.{◌≡◌, ap, ◌∙◌}
use native.Mathlib.Omega.{arith}
use Rattle.std.proofs.lemmas.Nat.{or_shifted}
use Rattle.std.specs.Int.{from_bool}
use Rattle.std.specs.Int.RustNames.{bit_or}
use Rattle.paper.specs.Bytes.{bit}
use Rattle.words.specs.Sets.{bit_on}

-- the bits of a set move by one place, and the lowest is free for a rule
pub bit_first : (b : Bool) (t : ℕ) → bit_or (t * 2 % 18446744073709551616) (from_bool b) ≡ bit_on b t
unfolding bit_on
bit_first b t =
    let e : t * 2 % 18446744073709551616 ≡ t % 9223372036854775808 * 2 ^ 1 = omega arith in
    ap (λ (n : ℕ). bit_or n (from_bool b)) e ∙ by b
  where
    by : (b : Bool) → bit_or (t % 9223372036854775808 * 2 ^ 1) (from_bool b) ≡ t % 9223372036854775808 * 2 + bit b
    by true = or_shifted (t % 9223372036854775808) 1 1 (omega arith)
    by false = or_shifted (t % 9223372036854775808) 1 0 (omega arith)

-- The kinds of characters, and the table of the 256 byte values. Assumes nothing.
use Rattle.std.specs.Prelude.{ℕ, zero, suc, ◌+◌, Bool, not, cond, List, [], ◌∷◌, eqb, get_or}
use Rattle.std.specs.Int.Bits.{bit_and}
use Rattle.std.specs.List.{prefix_len}
use Rattle.paper.specs.Bytes.{Bytes, within, is_digit, is_letter}
use Rattle.paper.specs.Fields.{name_byte, street_byte, city_byte, account_byte}
use Rattle.paper.specs.Pack.{control_byte}

-- a kind of character as a number, one bit of an entry, and the bytes of document 01 that are of it
pub record Kind : Type 0 where
  pub bit : ℕ
  pub has : ℕ → Bool

abbrev pub kinds : List Kind
kinds =
    record { bit = 1; has = is_digit }
    ∷ record { bit = 2; has = is_letter }
    ∷ record { bit = 4; has = name_byte }
    ∷ record { bit = 8; has = street_byte }
    ∷ record { bit = 16; has = city_byte }
    ∷ record { bit = 32; has = account_byte }
    ∷ record { bit = 64; has = control_byte }
    ∷ record { bit = 128; has = within 32 126 }
    ∷ []

-- the set of the kinds that a byte is of
abbrev pub kinds_of : List Kind → ℕ → ℕ
kinds_of [] x = 0
kinds_of (k ∷ ks) x = cond (k.has x) k.bit 0 + kinds_of ks x

-- the sets of n byte values from x on
abbrev pub entries : ℕ → ℕ → List ℕ
entries zero x = []
entries (suc n) x = kinds_of kinds x ∷ entries n (suc x)

-- tied to the paper by `fitting` of kinds/Ranges
unfoldable pub table : List ℕ
table = entries 256 0

-- by a table, a byte is of a kind in the set
-- tied to the paper by `tells` of kinds/Ranges
unfoldable pub is_in : List ℕ → ℕ → ℕ → Bool
is_in row set x = not (eqb (bit_and (get_or row x 0) set) 0)

-- the place of the first that does not pass; the length for none
-- tied to the paper by `account_no` and `account_yes` of field/Spaces
abbrev pub first_not : (ℕ → Bool) → Bytes → ℕ
first_not p s = prefix_len p s

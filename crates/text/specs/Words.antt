-- Bytes as one number, and a number's bytes. Assumes nothing.
use Rattle.std.specs.Prelude.{ℕ, zero, suc, ◌+◌, ◌*◌, ◌/◌, ◌%◌, ◌^◌, Bool, cond, [], ◌∷◌, leb, ltb, length}
use Rattle.std.proofs.lemmas.List.Edits.{sets}
use Rattle.paper.specs.Bytes.{Bytes}
use Rattle.text.specs.declared.Key.{Key}

-- tied to the paper by `before_high` of text/Words
abbrev pub is_byte : ℕ → Bool
is_byte x = ltb x 256

-- the number that bytes make, the first one lowest
-- tied to the paper by `same_little` of text/Words
abbrev pub little : Bytes → ℕ
little [] = 0
little (x ∷ s) = little s * 256 + x

-- so many bytes of a number, the lowest first
-- tied to the paper by `bytes_little` of text/Words
abbrev pub bytes_of : ℕ → ℕ → Bytes
bytes_of zero w = []
bytes_of (suc k) w = w % 256 ∷ bytes_of k (w / 256)

-- the number that the first k bytes make, the first one highest; a byte past the end is 0
-- tied to the paper by `before_high` of text/Words
abbrev pub high : ℕ → Bytes → ℕ
high zero s = 0
high (suc k) [] = 0
high (suc k) (x ∷ s) = x * 256 ^ k + high k s

-- the eight bytes of a number laid in at a place; where they do not fit, nothing is
-- tied to the paper by `word_fits` of text/Words
abbrev pub word_laid : Bytes → ℕ → ℕ → Bytes
word_laid out at w = cond (leb (at + 8) (length out)) (sets out at (bytes_of 8 w)) out

-- the number whose two halves a key is
-- tied to the paper by `before_high` and `pair_ltb` of text/Words
abbrev pub key_number : Key → ℕ
key_number k = k.first * 18446744073709551616 + k.last

-- the most that so many bytes write as digits
-- tied to the paper by `most_again` of text/Laws
abbrev pub most : ℕ → ℕ
most zero = 0
most (suc k) = most k * 10 + 207

-- Which rules of a table are broken, as a set of 64 bits: the first rule is the lowest bit. Assumes nothing.
use Rattle.std.specs.Prelude.{ℕ, ◌+◌, ◌*◌, ◌%◌, Bool, List, [], ◌∷◌}
use Rattle.paper.specs.Bytes.{bit}

-- a rule before the later ones; of more than 64 the last is lost
-- tied to the paper by `chosen_those` of rules/Laws
unfoldable pub bit_on : Bool → ℕ → ℕ
bit_on b later = later % 9223372036854775808 * 2 + bit b

-- the set of these rules, before later ones
-- tied to the paper by `chosen_those` of rules/Laws
abbrev pub bits_on : (ℕ → Bool) → List ℕ → ℕ → ℕ
bits_on p [] later = later
bits_on p (x ∷ s) later = bit_on (p x) (bits_on p s later)

-- tied to the paper by `chosen_those` of rules/Laws
abbrev pub bits_by : (ℕ → Bool) → List ℕ → ℕ
bits_by p rules = bits_on p rules 0

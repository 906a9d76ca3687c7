-- What a search by halves finds, on any bytes. Assumes nothing.
use Rattle.std.specs.Prelude.{ℕ, zero, suc, ◌+◌, ◌-◌, ◌*◌, ◌/◌, Bool, true, false, cond, ◌&&◌, List, [], ltb, length, take, drop}
use Rattle.std.specs.List.{take_while}
use Rattle.paper.specs.Bytes.{Bytes, same, before, part}
use Rattle.paper.specs.Pack.{width_of, rows, lines_in, keyed, Blocks, block, Lines}

abbrev pub mid : ℕ → ℕ → ℕ
mid low high = low + (high - low) / 2

-- where the test turns from true to false between low and high, by halves; f bounds the steps
unfoldable pub bisect : (ℕ → Bool) → ℕ → ℕ → ℕ → ℕ
bisect p zero low high = low
bisect p (suc f) low high =
    elim (ltb low high) [
      | true ↦ elim (p (mid low high)) [ true ↦ bisect p f (mid low high + 1) high | false ↦ bisect p f low (mid low high) ]
      | false ↦ low
    ]

-- the first k bytes of line i
abbrev pub key_at : ℕ → ℕ → Bytes → ℕ → Bytes
key_at w k s i = take k (drop (i * w) s)

abbrev pub below : ℕ → Bytes → Bytes → ℕ → Bool
below w key s i = before (key_at w (length key) s i) key

-- how many lines there are to look at: none for a key that is wider than a line
unfoldable pub count_for : ℕ → Bytes → Bytes → ℕ
count_for w key s = cond (ltb w (length key)) 0 (length s / w)

-- the first line whose key does not come before this one, where the lines ascend
unfoldable pub place_for : ℕ → Bytes → Bytes → ℕ
place_for w key s = bisect (below w key s) (count_for w key s) 0 (count_for w key s)

-- the lines from that one on, as bytes
unfoldable pub rest_in : ℕ → Bytes → Bytes → Bytes
rest_in w key s = part (place_for w key s * w) ((count_for w key s - place_for w key s) * w) s

-- the first lines, while they have this key
abbrev pub lead : Bytes → List Bytes → List Bytes
lead key ls = take_while (keyed key) ls

-- the lines from line i on, of n
abbrev pub lines_from : ℕ → ℕ → ℕ → Bytes → List Bytes
lines_from i n w s = rows (n - i) w (drop (i * w) s)

-- the line with the key, or no byte
-- tied to the paper by `line_found` of lookup/Laws
unfoldable pub line_in : ℕ → Bytes → Bytes → Bytes
line_in w key s =
    cond (ltb (place_for w key s) (count_for w key s) && same (key_at w (length key) s (place_for w key s)) key)
    (part (place_for w key s * w) w s) []

-- the lines with the key, as bytes
-- tied to the paper by `rows_found` of lookup/Laws
unfoldable pub rows_in : ℕ → Bytes → Bytes → Bytes
rows_in w key s = part (place_for w key s * w) (length (lead key (lines_from (place_for w key s) (count_for w key s) w s)) * w) s

-- the lines of a key that the search finds in the blocks
unfoldable pub sought : Blocks → Lines
sought b k key = lines_in (width_of k) (rows_in (width_of k) key (block b k))

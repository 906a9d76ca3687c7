-- The record sets of a file, from the first one on. Assumes nothing.
use Rattle.std.specs.Prelude.{ℕ, ◌+◌, ◌*◌, take, drop}
use Rattle.paper.specs.declared.Layout.TheVariants.{LKey}
use Rattle.paper.specs.Bytes.{Bytes, number}
use Rattle.paper.specs.Layouts.{field}

-- the Key, and as many Error records as it counts
unfoldable pub set_length : Bytes → ℕ
set_length s = 120 + 120 * number (field LKey 100 s)

-- the record set at the front, and what stands after it
unfoldable pub first_set : Bytes → Bytes
first_set s = take (set_length s) s

unfoldable pub after_set : Bytes → Bytes
after_set s = drop (set_length s) s

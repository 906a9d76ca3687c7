-- Whether a pack is well formed, its blocks, and where they stand. Assumes nothing.
use Rattle.std.specs.Prelude.{ℕ, zero, suc, ◌+◌, cond, drop, Option, None, Some}
use Rattle.paper.specs.Bytes.{Bytes, part}
use Rattle.paper.specs.Pack.{size_said, well_formed, Blocks, blocks_of}

-- the blocks of a well-formed pack
-- tied to the paper by `shape_good` and `shape_bad` of pack/Laws
unfoldable pub shape_of : Bytes → Option Blocks
shape_of s = cond (well_formed s) (Some (blocks_of s)) None

-- where the block after the first k blocks starts, by what their heads say
abbrev pub place_of : ℕ → Bytes → ℕ
place_of zero s = 0
place_of (suc k) s = place_of k s + 6 + size_said (drop (place_of k s) s)

-- the lines of the block that starts there
-- tied to the paper by `blocks_there` of pack/Laws
abbrev pub lines_at : ℕ → Bytes → Bytes
lines_at at s = part (at + 6) (size_said (drop at s)) s

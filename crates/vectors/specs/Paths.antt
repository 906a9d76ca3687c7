-- Where the parts of a case stand. Assumes nothing.
use Rattle.std.specs.Prelude.{ℕ, ◌++◌}
use Rattle.paper.specs.Bytes.{Bytes, bytes, written}

-- the case's number in three digits, a slash and the part's name
abbrev pub path_of : ℕ → Bytes → Bytes
path_of i part = written 3 i ++ bytes "/" ++ part

-- The tests on the lines of a block. Assumes nothing.
use Rattle.std.specs.Prelude.{ℕ, ◌%◌, Bool, ◌&&◌, eqb, length}
use Rattle.paper.specs.Bytes.{Bytes, every}
use Rattle.paper.specs.Pack.{lines_in, rises}

-- whole lines of w bytes, each of which passes a test, and whose first r bytes ascend
abbrev pub good_lines : ℕ → ℕ → (Bytes → Bool) → Bytes → Bool
good_lines w r p b = eqb (length b % w) 0 && every p (lines_in w b) && rises r (lines_in w b)

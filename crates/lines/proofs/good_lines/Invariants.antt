use mathlib.Core.Path.{◌≡◌}
use Rattle.std.specs.Slice.Iter.{chunks_exact_size}
use Rattle.paper.specs.Pack.{lines_in, rises}
use Rattle.lines.proofs.Chunks.{left}
use Rattle.lines.proofs.Passes.{Passes}
use Rattle.lines.proofs.Rises.{Follows}
use Rattle.lines.proofs.good_lines.Given as goal

abbrev pub invariant-loop-line : goal.invariant-loop-line
invariant-loop-line g l =
    record {
      wide : chunks_exact_size l.line-iterator ≡ l.width;
      passes : Passes g.F.FnMut l.fn.good (lines_in l.width l.b) l.good (left l.line-iterator);
      ascends : Follows l.rise l.width l.last (left l.line-iterator) (rises l.rise (lines_in l.width l.b));
    }

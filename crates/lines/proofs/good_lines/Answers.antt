use mathlib.Core.Path.{◌≡◌}
use mathlib.Core.Bool.{true, false}
use Rattle.std.proofs.Common.{rules}
use Rattle.paper.specs.Bytes.{every}
use Rattle.paper.specs.Pack.{lines_in, rises}
use Rattle.lines.proofs.Chunks.{next_line, no_more}
use Rattle.lines.proofs.Passes.{passes_on, passes_no, passes_end}
use Rattle.lines.proofs.Rises.{line_of, rises_on, rises_no, rises_end}
use Rattle.lines.proofs.good_lines.Goals as goal

pub returns-then-not-good : goal.returns-then-not-good
returns-then-not-good g c p acts =
    let l = c.loop-line in
    let one = next_line c.args.width c.requires.widths.0 l.line-iterator c.in-Some.line c.next.new.self l.invariant.wide c.in-Some.ensures.steps in
    let no : every p (lines_in c.args.width c.args.b.now) ≡ false =
    passes_no g.F.FnMut c.args.good _ _ _ _ _ c.good.ensures _ _ one.2 l.invariant.passes c.if-not-good.true p acts in
    search rules

pub returns-then-is_some_and : goal.returns-then-is_some_and
returns-then-is_some_and g c p acts =
    let l = c.loop-line in
    let one = next_line c.args.width c.requires.widths.0 l.line-iterator c.in-Some.line c.next.new.self l.invariant.wide c.in-Some.ensures.steps in
    let line = line_of c.piece.ensures c.key_of-key.ensures.result_value c.key_of-key.ensures.s_value one.1 in
    let no : rises c.args.rise (lines_in c.args.width c.args.b.now) ≡ false =
    rises_no c.args.rise c.args.width c.requires.widths.1 _ _ line _ c.is_some_and.result l.last _ _ l.invariant.ascends one.2 (search rules) c.if-is_some_and.true in
    search rules

pub loop-line-preserved : goal.loop-line-preserved
loop-line-preserved g c =
    let l = c.loop-line in
    let one = next_line c.args.width c.requires.widths.0 l.line-iterator c.in-Some.line c.next.new.self l.invariant.wide c.in-Some.ensures.steps in
    let line = line_of c.piece.ensures c.key_of-key.ensures.result_value c.key_of-key.ensures.s_value one.1 in
    record {
      wide = one.0;
      passes = passes_on g.F.FnMut c.args.good _ _ _ _ _ c.good.ensures _ _ one.2 l.invariant.passes c.if-not-good.false;
      ascends =
          rises_on c.args.rise c.args.width c.requires.widths.1 _ _ line _ c.is_some_and.result l.last _ _ l.invariant.ascends one.2 (search rules) c.if-is_some_and.false;
    }

pub returns : goal.returns
returns g c p acts =
    let l = c.loop-line in
    let none = no_more c.args.width c.requires.widths.0 l.line-iterator c.next.new.self l.invariant.wide c.in-None.ensures.steps in
    let passes : every p (lines_in c.args.width c.args.b.now) ≡ true = passes_end g.F.FnMut c.args.good _ _ _ none l.invariant.passes p acts in
    let ascends : rises c.args.rise (lines_in c.args.width c.args.b.now) ≡ true = rises_end c.args.rise c.args.width c.requires.widths.1 _ _ _ l.invariant.ascends none in
    search rules

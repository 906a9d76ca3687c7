use Rattle.std.proofs.Common.{true, ap, sym, ◌∙◌}
use Rattle.paper.specs.Judge.{letter_by}
use Rattle.paper.proofs.Flow.{not_no}
use Rattle.judge.specs.Seen.{numbers_in}
use Rattle.judge.proofs.Seen.{own_member}
use Rattle.judge.proofs.Whole.{letter_rest}
use Rattle.judge.proofs.letter_of.Goals as goal

pub returns-then-is_accepted : goal.returns-then-is_accepted
returns-then-is_accepted c =
    let a = c.args in
    ap (letter_by true) (sym c.if-is_accepted.true)
    ∙ letter_rest a.clean _ _ _ _ (numbers_in a.accepted.now) (not_no _ c.if-not-clean.false) c.field_of.ensures c.line_of.ensures _ (sym c.is_empty.ensures ∙ c.if-not-is_empty.false)
    (own_member a.form.now a.accepted.now a.identity _ c.requires.0 c.requires.1 c.field_of.ensures _ c.is_accepted.ensures)

pub returns : goal.returns
returns c =
    let a = c.args in
    ap (letter_by true) (sym c.if-is_accepted.false)
    ∙ letter_rest a.clean _ _ _ _ (numbers_in a.accepted.now) (not_no _ c.if-not-clean.false) c.field_of.ensures c.line_of.ensures _ (sym c.is_empty.ensures ∙ c.if-not-is_empty.false)
    (own_member a.form.now a.accepted.now a.identity _ c.requires.0 c.requires.1 c.field_of.ensures _ c.is_accepted.ensures)

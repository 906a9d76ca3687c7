use Rattle.std.proofs.Common.{Bool, List, cond, refl, ap, ◌∙◌, arith}
use Rattle.paper.specs.declared.Broken.{Broken}
use Rattle.paper.specs.declared.Kind.TheVariants.{Form}
use Rattle.judge.specs.Kept.{broke_if, held, added, no_findings}
use borrow.Author.Tests.{eq-eqb}
use Rattle.words.specs.Past.{identity_of, no_identity}
use Rattle.judge.proofs.Found.{form_size, form_fits}
use Rattle.judge.proofs.Whole.{form_found, births_found}
use Rattle.judge.proofs.of_form.Goals as goal

pub overflow_add-at : goal.overflow_add-at
overflow_add-at c =
    let a = c.args in
    let q = c.requires in
    let f = form_fits a.t.now a.at a.form.now q.0 q.1 in
    omega (arith, f)

pub returns-clause-identity_value : goal.returns-clause-identity_value
returns-clause-identity_value c =
    let a = c.args in
    let q = c.requires in
    c.broken-reading.ensures.identity_value
    ∙ ap (λ (b : Bool). cond b (identity_of a.form.now) no_identity) (eq-eqb _ 384 (form_size a.t.now a.at a.form.now q.0 q.1))

pub returns-clause-found_after : goal.returns-clause-found_after
returns-clause-found_after c =
    let a = c.args in
    let q = c.requires in
    form_found a.t.now a.at a.form.now a.reference.taxpayers.now a.reference.banks.now a.reference.states.now a.date.now a.dsn a.dcn a.facts q.0 q.1 _ _ _ _ _ _ _ _ _ _
    c.field_of.ensures c.line_of-payer.ensures c.field_of-2.ensures c.line_of-spouse.ensures c.field_of-3.ensures c.rows_of-zips.ensures
    (form_size a.t.now a.at a.form.now q.0 q.1) c.broken-reading.ensures.set_value refl (c.collected-first.ensures.result_after ∙ ap (λ (l : List Broken). added (held l no_findings) (broke_if a.at Form c.broken-reading.result.set)) q.2) c.with_others-found.ensures

pub returns-clause-births_value : goal.returns-clause-births_value
returns-clause-births_value c =
    let a = c.args in
    let q = c.requires in
    births_found a.t.now a.at a.form.now a.reference.taxpayers.now a.facts q.0 q.1 _ _ _ _ _
    c.field_of.ensures c.line_of-payer.ensures c.field_of-2.ensures c.line_of-spouse.ensures c.birth_byte-births.ensures

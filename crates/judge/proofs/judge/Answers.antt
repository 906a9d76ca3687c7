use Rattle.std.proofs.Common.{◌≡◌, Bool, true, false, min, length, rules, refl, sym, ap, ◌∙◌, arith}
use Rattle.paper.specs.declared.Kind.TheVariants.{Form}
use Rattle.paper.specs.Judge.{letter_by}
use Rattle.paper.specs.Pack.{lent}
use Rattle.paper.specs.Walk.{is}
use Rattle.judge.specs.Judged.{searched}
use Rattle.judge.proofs.Found.{form_size}
use Rattle.judge.proofs.Seen.{take-room}
use Rattle.judge.proofs.Whole.{first_kind, known_as, first_part, other_judged, form_judged}
use Rattle.judge.proofs.judge.Goals as goal

-- of any other document than a 4868 one
pub returns-then-ne : goal.returns-then-ne
returns-then-ne c =
    let a = c.args in
    let d = c.document-doc in
    let h : is Form d.result.first.kind ≡ false = search rules in
    let k = known_as a.t.now a.at d.result d.ensures false false (sym h) refl in
    let r = other_judged a.t.now a.date.now a.at a.past.now a.row.now (searched (lent a.reference)) d.result d.ensures k _ c.of_other-found.result _ _
    (first_kind a.t.now a.at d.result d.ensures) c.of_other-found.ensures (c.letter_by.ensures ∙ ap (λ (b : Bool). letter_by b false) c.is_empty.ensures) in
    record { value = r.0; past_becomes = r.1; row_becomes = r.2; list_after = r.3 }

pub overflow_add-end : goal.overflow_add-end
overflow_add-end c =
    let a = c.args in
    let d = c.document-doc in
    let h : is Form d.result.first.kind ≡ true = search rules in
    let k = known_as a.t.now a.at d.result d.ensures true true (sym h) refl in
    omega (arith, (first_part a.t.now a.at d.result d.ensures k).0)

pub slice_bounds-form-end : goal.slice_bounds-form-end
slice_bounds-form-end c =
    let a = c.args in
    let d = c.document-doc in
    let h : is Form d.result.first.kind ≡ true = search rules in
    let k = known_as a.t.now a.at d.result d.ensures true true (sym h) refl in
    omega (arith, (first_part a.t.now a.at d.result d.ensures k).0)

pub of_form-formed-requires : goal.of_form-formed-requires
of_form-formed-requires c =
    let a = c.args in
    let d = c.document-doc in
    let h : is Form d.result.first.kind ≡ true = search rules in
    let k = known_as a.t.now a.at d.result d.ensures true true (sym h) refl in
    (k, (first_part a.t.now a.at d.result d.ensures k).1, c.clear.ensures)

pub letter_of-letter-requires : goal.letter_of-letter-requires
letter_of-letter-requires c =
    let a = c.args in
    let d = c.document-doc in
    let h : is Form d.result.first.kind ≡ true = search rules in
    let k = known_as a.t.now a.at d.result d.ensures true true (sym h) refl in
    (c.of_form-formed.ensures.identity_value, form_size a.t.now a.at _ k (first_part a.t.now a.at d.result d.ensures k).1)

pub returns : goal.returns
returns c =
    let a = c.args in
    let d = c.document-doc in
    let h : is Form d.result.first.kind ≡ true = search rules in
    let k = known_as a.t.now a.at d.result d.ensures true true (sym h) refl in
    let f = first_part a.t.now a.at d.result d.ensures k in
    let o = c.of_form-formed in
    let m : c.min.result ≡ min a.past.now.n (length a.row.now) = omega (arith, c.min.ensures) in
    let l = rw (c.is_empty-2.ensures, m, take-room a.past.now.n a.row.now) at c.letter_of-letter.ensures in
    let r = form_judged a.t.now a.date.now (lent a.reference) a.at a.past.now a.row.now d.result d.ensures k _ o.result.found o.result.identity _ o.result.births _ _ _ f.1
    o.ensures.identity_value o.ensures.found_after l o.ensures.births_value c.pass.ensures.past_becomes c.pass.ensures.row_becomes in
    record { value = r.0; past_becomes = r.1; row_becomes = r.2; list_after = r.3 }

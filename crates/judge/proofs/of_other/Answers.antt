use Rattle.std.proofs.Common.{◌≡◌, rules, ◌∙◌}
use Rattle.paper.specs.declared.Kind.TheVariants.{Unknown}
use Rattle.paper.specs.Bytes.{bit}
use Rattle.paper.specs.Walk.{is}
use Rattle.judge.specs.Kept.{broke_if, held, added, no_findings}
use Rattle.judge.proofs.Kept.{added_none}
use Rattle.judge.proofs.of_other.Goals as goal

pub returns : goal.returns
returns c =
    let a = c.args in
    let e : c.from.result ≡ bit (is Unknown a.kind) = search rules in
    c.collected.ensures.result_after
    ∙ (λ i. added (held (c.requires.1 i) no_findings) (broke_if a.at a.kind (e i)))
    ∙ added_none (broke_if a.at a.kind (bit (is Unknown a.kind)))

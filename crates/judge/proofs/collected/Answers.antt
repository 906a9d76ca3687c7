use Rattle.std.proofs.Common.{rules, ◌≡◌, arith}
use Rattle.paper.specs.declared.Kind.TheVariants.{Auth}
use Rattle.paper.specs.Walk.{is}
use Rattle.judge.proofs.Kept.{stored_none, stored, kept_bounds}
use Rattle.judge.proofs.collected.Goals as goal

pub returns-then-set-eq0-clause-result_after : goal.returns-then-set-eq0-clause-result_after
returns-then-set-eq0-clause-result_after c =
    let a = c.args in
    stored_none a.f a.list.now.items a.place a.kind a.set c.requires.0 c.requires.1 c.if-set-eq0.true

pub returns-clause-result_after : goal.returns-clause-result_after
returns-clause-result_after c =
    let a = c.args in
    let e : c.eq.result ≡ is Auth a.kind = search rules in
    stored a.f a.list.now.items a.place a.kind a.set c.requires.0 c.requires.1 c.if-set-eq0.false _ _ e (omega (arith, c.min.ensures)) _ c.keep.ensures

pub returns-clause-bounds : goal.returns-clause-bounds
returns-clause-bounds c = kept_bounds _ _ c.keep.ensures _ _ c.min.ensures

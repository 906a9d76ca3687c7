use Rattle.std.proofs.Common.{Ok, ap, ◌∙◌}
use Rattle.std.proofs.lemmas.Result.{err_from_is_err_and}
use Rattle.route.specs.declared.Way.{Way}
use Rattle.route.specs.Way.{told, course}
use Rattle.ack.proofs.Ways.{refuses_need, rejects_need, is_begun, judges_need}
use Rattle.ack.proofs.need.Goals as goal

pub returns-in_err-codes : goal.returns-in_err-codes
returns-in_err-codes c =
    let p = err_from_is_err_and c.from_residual.result c.from_residual.ensures.1 in
    rw (p.1, p.2) (refuses_need _ _ _ _ _ c.choose.ensures _ (ap told c.in_err-codes.was))

pub invariant_of-sound : goal.invariant_of-sound
invariant_of-sound c =
    let w = ap told c.in_ok-codes.was ∙ ap (λ (w : Way). Ok (course w)) c.in-Judge.is in
    record { begins = is_begun _ _ _ _ _ c.choose.ensures _ _ w }

pub returns-in-Reject : goal.returns-in-Reject
returns-in-Reject c =
    let w = ap told c.in_ok-codes.was ∙ ap (λ (w : Way). Ok (course w)) c.in-Reject.is in
    rejects_need _ _ _ _ _ c.choose.ensures _ w c.size_of.result c.size_of.ensures

pub returns-in-Judge : goal.returns-in-Judge
returns-in-Judge c =
    let w = ap told c.in_ok-codes.was ∙ ap (λ (w : Way). Ok (course w)) c.in-Judge.is in
    judges_need _ _ _ _ _ c.choose.ensures _ _ w c.file_size.result c.file_size.ensures

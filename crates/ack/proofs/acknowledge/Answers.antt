use Rattle.std.proofs.Common.{Ok, length, refl, ap, ◌∙◌}
use Rattle.std.proofs.lemmas.Result.{err_from_is_err_and}
use Rattle.route.specs.declared.Way.{Way}
use Rattle.route.specs.Way.{told, course}
use Rattle.ack.proofs.Ways.{refuses, rejects, is_begun, judges}
use Rattle.ack.proofs.acknowledge.Goals as goal

pub returns-in_err-codes : goal.returns-in_err-codes
returns-in_err-codes c =
    let p = err_from_is_err_and c.from_residual.result c.from_residual.ensures.1 in
    rw (p.1, p.2) (record { value = refuses _ _ _ _ _ c.choose.ensures _ (ap told c.in_err-codes.was) (length c.args.out.now); out_after = refl })

pub invariant_of-sound : goal.invariant_of-sound
invariant_of-sound c =
    let w = ap told c.in_ok-codes.was ∙ ap (λ (w : Way). Ok (course w)) c.in-Judge.is in
    record { begins = is_begun _ _ _ _ _ c.choose.ensures _ _ w }

pub returns-in-Reject : goal.returns-in-Reject
returns-in-Reject c =
    let w = ap told c.in_ok-codes.was ∙ ap (λ (w : Way). Ok (course w)) c.in-Reject.is in
    let r = rejects _ _ _ _ _ c.choose.ensures _ w _ c.args.out.now _ _ c.sequence_of-sequence.ensures
    (record { says = c.reject.ensures.value; leaves = c.reject.ensures.out_after }) in
    record { value = r.0; out_after = r.1 }

pub returns-in-Judge : goal.returns-in-Judge
returns-in-Judge c =
    let w = ap told c.in_ok-codes.was ∙ ap (λ (w : Way). Ok (course w)) c.in-Judge.is in
    let j = judges _ _ _ _ _ c.choose.ensures _ _ w c.args.out.now _ _ c.judge_all.ensures in
    record { value = j.0; out_after = j.1 }

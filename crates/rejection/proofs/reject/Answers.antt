use Rattle.rejection.proofs.Laws.{too_short, rejected}
use Rattle.rejection.proofs.reject.Goals as goal

pub returns-then-out-size-clause-value : goal.returns-then-out-size-clause-value
returns-then-out-size-clause-value c =
    (too_short c.args.sequence.now c.args.codes c.size_of-size.result c.size_of-size.ensures c.args.out.now c.if-out-size.true).says

pub returns-clause-value : goal.returns-clause-value
returns-clause-value c =
    (rejected c.args.sequence.now c.args.codes c.size_of-size.result c.size_of-size.ensures c.args.out.now c.put_key.new.out c.put_codes.new.out c.codes_of-list.result.now c.if-out-size.false c.codes_of-list.ensures.value c.put_key.ensures c.put_codes.ensures).says

pub returns-clause-out_after : goal.returns-clause-out_after
returns-clause-out_after c =
    (rejected c.args.sequence.now c.args.codes c.size_of-size.result c.size_of-size.ensures c.args.out.now c.put_key.new.out c.put_codes.new.out c.codes_of-list.result.now c.if-out-size.false c.codes_of-list.ensures.value c.put_key.ensures c.put_codes.ensures).leaves

use Rattle.rejection.proofs.Laws.{next_code, no_code}
use Rattle.rejection.proofs.put_codes.Goals as goal

pub loop-i-preserved : goal.loop-i-preserved
loop-i-preserved c = next_code c.loop-i.out _ c.args.codes.now c.loop-i.i c.loop-i.invariant c.put_code.new.out c.loop-i-test.true c.put_code.ensures

pub returns : goal.returns
returns c = no_code c.loop-i.out _ c.args.codes.now c.loop-i.i c.loop-i.invariant c.loop-i-test.false

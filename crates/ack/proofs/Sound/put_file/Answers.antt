use mathlib.Core.Path.{ap, ◌∙◌}
use Rattle.std.proofs.Common.{arith}
use Rattle.paper.specs.Bytes.{laid}
use Rattle.paper.specs.Pack.{lent}
use Rattle.judge.specs.Judged.{searched}
use Rattle.ack.proofs.Whole.{sets_small, file_size, file_laid}
use Rattle.ack.proofs.Sound.put_file.Goals as goal

pub write_sets-done-requires : goal.write_sets-done-requires
write_sets-done-requires c =
    let f = file_size (searched (lent c.args.self.reference)) c.args.self.date.now c.args.name.now c.args.self.t.now c.args.self.n c.args.self.begins in
    omega (arith, c.requires, f, c.lay.auto.out)

pub overflow_add-result : goal.overflow_add-result
overflow_add-result c =
    let f = sets_small (searched (lent c.args.self.reference)) c.args.self.date.now c.args.name.now c.args.self.t.now c.args.self.n c.args.self.begins in
    record { fits = omega (arith, f, c.write_sets-done.ensures.ends) }

pub returns-clause-value : goal.returns-clause-value
returns-clause-value c =
    let f = file_size (searched (lent c.args.self.reference)) c.args.self.date.now c.args.name.now c.args.self.t.now c.args.self.n c.args.self.begins in
    omega (arith, f, c.write_sets-done.ensures.ends)

pub returns-clause-out_after : goal.returns-clause-out_after
returns-clause-out_after c =
    file_laid (searched (lent c.args.self.reference)) c.args.self.date.now c.args.name.now c.args.self.t.now c.args.self.n c.args.self.begins c.args.out.now c.lay.new.out c.write_sets-done.new.out c.put_recap.new.out c.through-twelve.result.now
    c.write_sets-done.result c.requires (c.lay.ensures ∙ ap (laid c.args.out.now 0) c.copy_from_slice.ensures.after) c.write_sets-done.ensures c.through-twelve.ensures c.put_recap.ensures

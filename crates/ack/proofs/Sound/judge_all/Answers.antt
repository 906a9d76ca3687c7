use Rattle.std.proofs.Common.{sym, arith}
use borrow.Author.Tests.{leb-true, leb-false}
use Rattle.paper.proofs.Flow.{by_true, by_false}
use Rattle.paper.specs.Pack.{lent}
use Rattle.judge.specs.Judged.{searched}
use Rattle.rejection.proofs.Laws.{refuse, give}
use Rattle.ack.proofs.Whole.{file_size}
use Rattle.ack.proofs.Sound.judge_all.Goals as goal

pub returns-then-not-has_room : goal.returns-then-not-has_room
returns-then-not-has_room c =
    refuse _ _ _ (sym (file_size (searched (lent c.args.self.reference)) c.args.self.date.now c.args.name.now c.args.self.t.now c.args.self.n c.args.self.begins))
    (leb-false _ _ (by_false _ _ c.has_room.ensures c.if-not-has_room.true))

pub put_file-requires : goal.put_file-requires
put_file-requires c =
    let size = file_size (searched (lent c.args.self.reference)) c.args.self.date.now c.args.name.now c.args.self.t.now c.args.self.n c.args.self.begins in
    let fits = leb-true _ _ (by_true _ _ c.has_room.ensures c.if-not-has_room.false) in
    omega (arith, size, fits)

pub returns : goal.returns
returns c =
    let size = file_size (searched (lent c.args.self.reference)) c.args.self.date.now c.args.name.now c.args.self.t.now c.args.self.n c.args.self.begins in
    let fits = leb-true _ _ (by_true _ _ c.has_room.ensures c.if-not-has_room.false) in
    give _ _ _ c.put_file.ensures.value _ (omega (arith, c.put_file.ensures.value, size, fits)) c.put_file.ensures.out_after

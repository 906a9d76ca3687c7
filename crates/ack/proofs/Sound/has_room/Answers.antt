use Rattle.std.proofs.Common.{arith}
use Rattle.paper.specs.Pack.{lent}
use Rattle.judge.specs.Judged.{searched}
use Rattle.ack.proofs.Whole.{room_for_lem, docs_fit}
use Rattle.ack.proofs.Sound.has_room.Goals as goal

pub most-requires : goal.most-requires
most-requires c = (c.args.self.begins.short, docs_fit (searched (lent c.args.self.reference)) c.args.self.date.now c.args.self.date.now c.args.self.t.now c.args.self.n c.args.self.begins)

pub returns-then-most-room : goal.returns-then-most-room
returns-then-most-room c =
    room_for_lem (searched (lent c.args.self.reference)) c.args.self.date.now c.args.self.date.now c.args.self.t.now c.args.self.n c.args.self.begins c.args.room (omega (arith, c.most.ensures.0))

use Rattle.std.proofs.Common.{◌≡◌, arith, ◌+◌, ◌*◌}
use Rattle.crash_laws.proofs.Firm.{adds_answered}
use Rattle.store.proofs.Areas.{only_inside}
use Rattle.store.proofs.chunks.write_part.Goals as goal

pub returns-clause-only : goal.returns-clause-only
returns-clause-only g c =
    let part = c.requires.part in
    only_inside (g.B.Block.size c.args.device.now) (g.B.Block.size c.write.new.self) c.args.chunk c.args.place (c.args.chunk * c.args.place + c.args.first) c.args.count _ _ (g.met.B.Block.whole c.args.device.now) (g.met.B.Block.whole c.write.new.self) c.write.ensures.size (omega arith) (omega arith) c.write.ensures.rest

pub returns-clause-adds : goal.returns-clause-adds
returns-clause-adds g c = λ loud.
    let part = c.requires.part in
    let inside = c.requires.inside in
    let room = c.requires.room in
    let whole = g.met.B.Block.whole c.args.device.now in
    let at : c.args.chunk * (c.args.place + 1) ≡ c.args.chunk * c.args.place + c.args.chunk = grind arith in
    adds_answered c.write.result _ (g.B.Block.may_hold c.args.device.now) (g.B.Block.may_hold c.write.new.self) (g.B.Block.contents c.args.device.now) (g.B.Block.contents c.write.new.self) c.args.bytes.now (c.args.chunk * c.args.place + c.args.first) c.args.count
    c.write.ensures.stop c.write.ensures.stop_err c.write.ensures.written (omega (arith, part, inside, room, whole, at)) room loud

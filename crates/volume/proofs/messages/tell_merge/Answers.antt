-- The merging store answers, where the number is that of its snapshot.
use Rattle.std.proofs.Common.{◌≡◌, arith}
use Rattle.volume.specs.Layering.{Measures}
use Rattle.volume.proofs.Told.{met_answered, met_refused}
use Rattle.volume.proofs.messages.tell_merge.Goals as goal

pub returns-else-number-clause-ok : goal.returns-else-number-clause-ok
returns-else-number-clause-ok g c =
    let m : Measures g.row.B.Denot = record { contents = g.B.Block.contents; durable = g.B.Block.durable; size = g.B.Block.size; faults = g.B.Block.fault_count; done = g.B.Block.done_count } in
    let e = c.message.ensures in
    let mine : c.in-Some.merging.number ≡ c.args.number = omega (arith, c.if-number.false, c.number.ensures) in
    rw c.in-Some.is (met_answered m g.B.Block.layers c.args.number c.args.depth c.args.message.now c.in-Some.merging c.message.new.self mine c.message.result e.rest e.same e.ok)

pub returns-else-number-clause-err : goal.returns-else-number-clause-err
returns-else-number-clause-err g c =
    let m : Measures g.row.B.Denot = record { contents = g.B.Block.contents; durable = g.B.Block.durable; size = g.B.Block.size; faults = g.B.Block.fault_count; done = g.B.Block.done_count } in
    let e = c.message.ensures in
    let mine : c.in-Some.merging.number ≡ c.args.number = omega (arith, c.if-number.false, c.number.ensures) in
    rw c.in-Some.is (met_refused m g.B.Block.layers c.args.number c.args.depth c.args.message.now c.in-Some.merging c.message.new.self mine c.message.result e.rest e.same e.err e.unchanged)

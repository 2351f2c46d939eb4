-- The origin's device has other layers, or nothing changed.
use Rattle.plain_machine.specs.declared.request.Dev.TheVariants.{Origin}
use Rattle.volume.specs.Layering.{Measures}
use Rattle.volume.proofs.Accepts.{if_err, if_ok}
use Rattle.volume_commands.proofs.LayersChanged.{message_changes, origin_keeps}
use Rattle.volume_commands.proofs.Tells.{origin_told, origin_untold}
use Rattle.volume_commands.proofs.resting.Resting.message_origin.Goals as goal

pub returns-clause-ok : goal.returns-clause-ok
returns-clause-ok g c =
    let m : Measures g.row.B.Denot = record { contents = g.B.Block.contents; durable = g.B.Block.durable; size = g.B.Block.size; faults = g.B.Block.fault_count; done = g.B.Block.done_count } in
    rw (← c.self.view_is) (if_ok c.message.result _ _ (λ answer told. origin_told m g.B.Block.layers c.args.depth c.args.message.now c.self.inside.volume.volume c.message.new.self.volume answer told) c.message.ensures.does.ok)

pub returns-clause-err : goal.returns-clause-err
returns-clause-err g c =
    let m : Measures g.row.B.Denot = record { contents = g.B.Block.contents; durable = g.B.Block.durable; size = g.B.Block.size; faults = g.B.Block.fault_count; done = g.B.Block.done_count } in
    rw (← c.self.view_is) (if_err c.message.result _ _ (λ refusal untold. origin_untold m g.B.Block.layers c.args.depth c.args.message.now c.self.inside.volume.volume c.message.new.self.volume refusal untold) c.message.ensures.does.err)

pub returns-clause-merging : goal.returns-clause-merging
returns-clause-merging g c =
    let m : Measures g.row.B.Denot = record { contents = g.B.Block.contents; durable = g.B.Block.durable; size = g.B.Block.size; faults = g.B.Block.fault_count; done = g.B.Block.done_count } in
    rw (← c.self.view_is) (origin_keeps g.B.Block.may_hold m g.B.Block.layers c.args.depth c.args.message.now c.message.result c.self.inside.volume.volume c.message.new.self.volume c.message.ensures.does)

pub returns-clause-rest : goal.returns-clause-rest
returns-clause-rest g c =
    let m : Measures g.row.B.Denot = record { contents = g.B.Block.contents; durable = g.B.Block.durable; size = g.B.Block.size; faults = g.B.Block.fault_count; done = g.B.Block.done_count } in
    rw (← c.self.view_is) (message_changes g.B.Block.may_hold m g.B.Block.layers Origin c.args.depth c.args.message.now c.message.result c.self.inside.volume.volume c.message.new.self.volume c.message.ensures.does)

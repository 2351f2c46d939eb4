-- The merging store has other layers, or nothing changed; or no merge is begun.
use Rattle.plain_machine.specs.declared.request.Dev.TheVariants.{Snap}
use Rattle.volume.specs.Layering.{Measures}
use Rattle.volume.proofs.Accepts.{if_ok}
use Rattle.volume_commands.proofs.Begun.{one_begun}
use Rattle.volume_commands.proofs.LayersChanged.{message_changes, merging_untold_as}
use Rattle.volume_commands.proofs.Tells.{merging_told_as}
use Rattle.volume_commands.proofs.resting.Resting.message_merging.Goals as goal

pub returns-clause-ok : goal.returns-clause-ok
returns-clause-ok g c =
    let m : Measures g.row.B.Denot = record { contents = g.B.Block.contents; durable = g.B.Block.durable; size = g.B.Block.size; faults = g.B.Block.fault_count; done = g.B.Block.done_count } in
    rw (← c.self.view_is) (if_ok c.message.result _ _ (λ answer told. merging_told_as m g.B.Block.layers c.args.depth c.args.message.now c.self.inside.volume.volume c.message.new.self.volume c.in-Some.merging c.in-Some.ensures.apart answer told) c.message.ensures.does.ok)

pub returns-clause-err : goal.returns-clause-err
returns-clause-err g c =
    let m : Measures g.row.B.Denot = record { contents = g.B.Block.contents; durable = g.B.Block.durable; size = g.B.Block.size; faults = g.B.Block.fault_count; done = g.B.Block.done_count } in
    rw (← c.self.view_is) (merging_untold_as g.B.Block.may_hold m g.B.Block.layers c.in-Some.merging c.args.depth c.args.message.now c.message.result c.self.inside.volume.volume c.message.new.self.volume c.in-Some.ensures.apart (one_begun c.self.inside.volume.volume.merge c.in-Some.merging c.in-Some.ensures.value) c.message.ensures.does)

pub returns-clause-rest : goal.returns-clause-rest
returns-clause-rest g c =
    let m : Measures g.row.B.Denot = record { contents = g.B.Block.contents; durable = g.B.Block.durable; size = g.B.Block.size; faults = g.B.Block.fault_count; done = g.B.Block.done_count } in
    rw (← c.self.view_is) (message_changes g.B.Block.may_hold m g.B.Block.layers (Snap c.in-Some.merging) c.args.depth c.args.message.now c.message.result c.self.inside.volume.volume c.message.new.self.volume c.message.ensures.does)

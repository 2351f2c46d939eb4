-- The store at that place has other layers, or nothing changed.
use Rattle.plain_machine.specs.declared.request.Dev.TheVariants.{Snap}
use Rattle.volume.specs.Layering.{Measures}
use Rattle.volume.proofs.Accepts.{if_err, if_ok}
use Rattle.volume_commands.proofs.LayersChanged.{message_changes, other_stays}
use Rattle.volume_commands.proofs.Tells.{store_told, store_untold}
use Rattle.volume_commands.proofs.resting.Resting.message_store.Goals as goal

pub returns-clause-ok : goal.returns-clause-ok
returns-clause-ok g c =
    let m : Measures g.row.B.Denot = record { contents = g.B.Block.contents; durable = g.B.Block.durable; size = g.B.Block.size; faults = g.B.Block.fault_count; done = g.B.Block.done_count } in
    rw (← c.self.view_is) (if_ok c.message.result _ _ (λ answer told. store_told m g.B.Block.layers c.args.depth c.args.message.now c.self.inside.volume.volume c.message.new.self.volume c.number-number.result c.args.k (rw c.number-number.ensures c.snap.ensures.first) answer told) c.message.ensures.does.ok)

pub returns-clause-err : goal.returns-clause-err
returns-clause-err g c =
    let m : Measures g.row.B.Denot = record { contents = g.B.Block.contents; durable = g.B.Block.durable; size = g.B.Block.size; faults = g.B.Block.fault_count; done = g.B.Block.done_count } in
    rw (← c.self.view_is)
    (if_err c.message.result _ _ (λ refusal untold. store_untold m g.B.Block.layers c.args.depth c.args.message.now c.self.inside.volume.volume c.message.new.self.volume c.number-number.result c.args.k (rw c.number-number.ensures c.snap.ensures.first) c.snap.result.now (c.snap.ensures.value c.snap.result.now) refusal untold) c.message.ensures.does.err)

pub returns-clause-merging : goal.returns-clause-merging
returns-clause-merging g c =
    let m : Measures g.row.B.Denot = record { contents = g.B.Block.contents; durable = g.B.Block.durable; size = g.B.Block.size; faults = g.B.Block.fault_count; done = g.B.Block.done_count } in
    rw (← c.self.view_is) (other_stays g.B.Block.may_hold m g.B.Block.layers c.number-number.result c.args.depth c.args.message.now c.message.result c.self.inside.volume.volume c.message.new.self.volume (rw c.number-number.ensures c.snap.ensures.other) c.message.ensures.does)

pub returns-clause-rest : goal.returns-clause-rest
returns-clause-rest g c =
    let m : Measures g.row.B.Denot = record { contents = g.B.Block.contents; durable = g.B.Block.durable; size = g.B.Block.size; faults = g.B.Block.fault_count; done = g.B.Block.done_count } in
    rw (← c.self.view_is) (message_changes g.B.Block.may_hold m g.B.Block.layers (Snap c.number-number.result) c.args.depth c.args.message.now c.message.result c.self.inside.volume.volume c.message.new.self.volume c.message.ensures.does)

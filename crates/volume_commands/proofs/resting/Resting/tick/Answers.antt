-- Layers alone changed, so nothing in memory did.
use Rattle.std.proofs.Common.{None}
use Rattle.layers.specs.Ticks.{layers_ticked}
use Rattle.volume.specs.Layering.{Measures}
use Rattle.volume_commands.proofs.Alike.{all_moved}
use Rattle.volume_commands.proofs.LayersChanged.{tick_changes}
use Rattle.volume_commands.proofs.resting.Resting.tick.Goals as goal

pub returns-clause-moved : goal.returns-clause-moved
returns-clause-moved g c =
    rw (← c.self.view_is) (all_moved g.B.Block.contents g.B.Block.layers g.B.Block.size (layers_ticked c.args.seconds) c.self.inside.volume.volume c.tick.new.self.volume (c.tick.ensures.does.moving None))

pub returns-clause-rest : goal.returns-clause-rest
returns-clause-rest g c =
    let m : Measures g.row.B.Denot = record { contents = g.B.Block.contents; durable = g.B.Block.durable; size = g.B.Block.size; faults = g.B.Block.fault_count; done = g.B.Block.done_count } in
    rw (← c.self.view_is) (tick_changes g.B.Block.may_hold m g.B.Block.layers c.args.seconds c.self.inside.volume.volume c.tick.new.self.volume c.tick.ensures.does)

-- The life goes on by one deed.
use Rattle.volume.specs.Layering.{Measures}
use Rattle.volume_lifetime.specs.declared.deed.Deed.TheVariants.{Tick}
use Rattle.volume_lifetime.specs.declared.deed.Done.TheVariants.{Ticked}
use Rattle.volume_lifetime.proofs.Life.{life_on}
use Rattle.volume_lifetime.proofs.Lives.{tick_done}
use Rattle.volume_lifetime.proofs.lived_volume.LivedVolume.tick.Goals as goal

pub invariant_of-self : goal.invariant_of-self
invariant_of-self g c =
    let m : Measures g.row.B.Denot = record { contents = g.B.Block.contents; durable = g.B.Block.durable; size = g.B.Block.size; faults = g.B.Block.fault_count; done = g.B.Block.done_count } in
    life_on g.B.Block.may_hold m g.B.Block.layers (Tick c.args.seconds) (Ticked) c.self.inside.volume c.tick.new.self c.self.invariant
    (tick_done g.B.Block.may_hold m g.B.Block.layers c.args.seconds c.self.inside.volume c.tick.new.self c.tick.ensures.does)

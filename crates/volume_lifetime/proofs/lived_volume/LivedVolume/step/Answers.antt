-- The life goes on by one deed.
use Rattle.volume.specs.Layering.{Measures}
use Rattle.volume_lifetime.specs.declared.deed.Deed.TheVariants.{Step}
use Rattle.volume_lifetime.specs.declared.deed.Done.TheVariants.{Stepped}
use Rattle.volume_lifetime.proofs.Life.{life_on}
use Rattle.volume_lifetime.proofs.Lives.{step_done}
use Rattle.volume_lifetime.proofs.lived_volume.LivedVolume.step.Goals as goal

pub invariant_of-self : goal.invariant_of-self
invariant_of-self g c =
    let m : Measures g.row.B.Denot = record { contents = g.B.Block.contents; durable = g.B.Block.durable; size = g.B.Block.size; faults = g.B.Block.fault_count; done = g.B.Block.done_count } in
    life_on g.B.Block.may_hold m g.B.Block.layers (Step c.args.event) (Stepped c.step.result) c.self.inside.volume c.step.new.self c.self.invariant
    (step_done g.B.Block.may_hold m g.B.Block.layers c.args.event c.step.result c.self.inside.volume c.step.new.self c.step.ensures.does)

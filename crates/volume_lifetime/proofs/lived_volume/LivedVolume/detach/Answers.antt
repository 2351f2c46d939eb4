-- The life goes on by one deed.
use Rattle.volume.specs.Layering.{Measures}
use Rattle.volume_lifetime.specs.declared.deed.Deed.TheVariants.{Detach}
use Rattle.volume_lifetime.specs.declared.deed.Done.TheVariants.{Detached}
use Rattle.volume_lifetime.proofs.Life.{life_on}
use Rattle.volume_lifetime.proofs.Lives.{detach_done}
use Rattle.volume_lifetime.proofs.lived_volume.LivedVolume.detach.Goals as goal

pub invariant_of-self : goal.invariant_of-self
invariant_of-self g c =
    let m : Measures g.row.B.Denot = record { contents = g.B.Block.contents; durable = g.B.Block.durable; size = g.B.Block.size; faults = g.B.Block.fault_count; done = g.B.Block.done_count } in
    life_on g.B.Block.may_hold m g.B.Block.layers (Detach c.args.number) (Detached c.detach.result) c.self.inside.volume c.detach.new.self c.self.invariant
    (detach_done g.B.Block.may_hold m g.B.Block.layers c.args.number c.detach.result c.self.inside.volume c.detach.new.self c.detach.ensures.does c.detach.ensures.err)

-- The life goes on by one deed.
use Rattle.volume.specs.Layering.{Measures}
use Rattle.volume_lifetime.specs.declared.deed.Deed.TheVariants.{Attach}
use Rattle.volume_lifetime.specs.declared.deed.Done.TheVariants.{Attached}
use Rattle.volume_lifetime.proofs.Life.{life_on}
use Rattle.volume_lifetime.proofs.Lives.{attach_done}
use Rattle.volume_lifetime.proofs.lived_volume.LivedVolume.attach.Goals as goal

pub invariant_of-self : goal.invariant_of-self
invariant_of-self g c =
    let m : Measures g.row.B.Denot = record { contents = g.B.Block.contents; durable = g.B.Block.durable; size = g.B.Block.size; faults = g.B.Block.fault_count; done = g.B.Block.done_count } in
    life_on g.B.Block.may_hold m g.B.Block.layers (Attach c.args.store c.args.chunk c.args.overflow) (Attached c.attach.result) c.self.inside.volume c.attach.new.self c.self.invariant
    (attach_done g.B.Block.may_hold m g.B.Block.layers c.args.store c.args.chunk c.args.overflow c.self.inside.volume c.attach.new.self c.attach.result c.attach.ensures.does c.attach.ensures.refused)

pub returns-clause-refused : goal.returns-clause-refused
returns-clause-refused g c = rw (← c.self.view_is) c.attach.ensures.refused

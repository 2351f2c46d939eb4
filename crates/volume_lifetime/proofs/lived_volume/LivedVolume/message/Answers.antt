-- The life goes on by one deed.
use Rattle.volume.specs.Layering.{Measures}
use Rattle.volume_lifetime.specs.declared.deed.Deed.TheVariants.{Tell}
use Rattle.volume_lifetime.specs.declared.deed.Done.TheVariants.{Told}
use Rattle.volume_lifetime.proofs.Life.{life_on}
use Rattle.volume_lifetime.proofs.Lives.{tell_done}
use Rattle.volume_lifetime.proofs.lived_volume.LivedVolume.message.Goals as goal

pub invariant_of-self : goal.invariant_of-self
invariant_of-self g c =
    let m : Measures g.row.B.Denot = record { contents = g.B.Block.contents; durable = g.B.Block.durable; size = g.B.Block.size; faults = g.B.Block.fault_count; done = g.B.Block.done_count } in
    life_on g.B.Block.may_hold m g.B.Block.layers (Tell c.args.dev c.args.depth c.args.message.now) (Told c.message.result) c.self.inside.volume c.message.new.self c.self.invariant
    (tell_done g.B.Block.may_hold m g.B.Block.layers c.args.dev c.args.depth c.args.message.now c.message.result c.self.inside.volume c.message.new.self c.message.ensures.does)

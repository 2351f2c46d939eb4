-- The life goes on by one deed.
use Rattle.volume.specs.Layering.{Measures}
use Rattle.volume_lifetime.specs.declared.deed.Deed.TheVariants.{Submit}
use Rattle.volume_lifetime.specs.declared.deed.Done.TheVariants.{Submitted}
use Rattle.volume_lifetime.proofs.Life.{life_on}
use Rattle.volume_lifetime.proofs.Lives.{submit_done}
use Rattle.volume_lifetime.proofs.lived_volume.LivedVolume.submit.Goals as goal

pub invariant_of-self : goal.invariant_of-self
invariant_of-self g c =
    let m : Measures g.row.B.Denot = record { contents = g.B.Block.contents; durable = g.B.Block.durable; size = g.B.Block.size; faults = g.B.Block.fault_count; done = g.B.Block.done_count } in
    life_on g.B.Block.may_hold m g.B.Block.layers (Submit c.args.request) (Submitted c.submit.result) c.self.inside.volume c.submit.new.self c.self.invariant
    (submit_done g.B.Block.may_hold m g.B.Block.layers c.args.request c.submit.result c.self.inside.volume c.submit.new.self c.submit.ensures.does c.submit.ensures.refused)

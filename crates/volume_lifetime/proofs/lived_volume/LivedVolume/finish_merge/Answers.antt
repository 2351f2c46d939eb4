-- The life goes on by one deed.
use Rattle.volume.specs.Layering.{Measures}
use Rattle.volume_lifetime.specs.declared.deed.Deed.TheVariants.{FinishMerge}
use Rattle.volume_lifetime.specs.declared.deed.Done.TheVariants.{Finished}
use Rattle.volume_lifetime.proofs.Life.{life_on}
use Rattle.volume_lifetime.proofs.Lives.{finish_done}
use Rattle.volume_lifetime.proofs.lived_volume.LivedVolume.finish_merge.Goals as goal

pub invariant_of-self : goal.invariant_of-self
invariant_of-self g c =
    let m : Measures g.row.B.Denot = record { contents = g.B.Block.contents; durable = g.B.Block.durable; size = g.B.Block.size; faults = g.B.Block.fault_count; done = g.B.Block.done_count } in
    life_on g.B.Block.may_hold m g.B.Block.layers (FinishMerge) (Finished c.finish_merge.result) c.self.inside.volume c.finish_merge.new.self c.self.invariant
    (finish_done g.B.Block.may_hold m g.B.Block.layers c.finish_merge.result c.self.inside.volume c.finish_merge.new.self c.finish_merge.ensures.does c.finish_merge.ensures.err)

pub returns-clause-does : goal.returns-clause-does
returns-clause-does g c = rw (← c.self.view_is) c.finish_merge.ensures.does

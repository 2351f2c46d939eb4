-- The life goes on by one deed.
use Rattle.volume.specs.Layering.{Measures}
use Rattle.volume_lifetime.specs.declared.deed.Deed.TheVariants.{BeginMerge}
use Rattle.volume_lifetime.specs.declared.deed.Done.TheVariants.{Begun}
use Rattle.volume_lifetime.proofs.Life.{life_on}
use Rattle.volume_lifetime.proofs.Lives.{begin_done}
use Rattle.volume_lifetime.proofs.lived_volume.LivedVolume.begin_merge.Goals as goal

pub invariant_of-self : goal.invariant_of-self
invariant_of-self g c =
    let m : Measures g.row.B.Denot = record { contents = g.B.Block.contents; durable = g.B.Block.durable; size = g.B.Block.size; faults = g.B.Block.fault_count; done = g.B.Block.done_count } in
    life_on g.B.Block.may_hold m g.B.Block.layers (BeginMerge c.args.number) (Begun c.begin_merge.result) c.self.inside.volume c.begin_merge.new.self c.self.invariant
    (begin_done g.B.Block.may_hold m g.B.Block.layers c.args.number c.begin_merge.result c.self.inside.volume c.begin_merge.new.self c.begin_merge.ensures.does c.begin_merge.ensures.refused)

pub returns-clause-does : goal.returns-clause-does
returns-clause-does g c = rw (← c.self.view_is) c.begin_merge.ensures.does

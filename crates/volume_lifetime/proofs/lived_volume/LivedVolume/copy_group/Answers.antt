-- The life goes on by a list of deeds.
use Rattle.volume.specs.Layering.{Measures}
use Rattle.volume_lifetime.specs.AtOnce.{copied_chunks, copy_answers, copy_deeds}
use Rattle.volume_lifetime.proofs.AtOnce.{group_answered}
use Rattle.volume_lifetime.proofs.Life.{life_by}
use Rattle.volume_lifetime.proofs.lived_volume.LivedVolume.copy_group.Goals as goal

pub invariant_of-self : goal.invariant_of-self
invariant_of-self g c =
    let m : Measures g.row.B.Denot = record { contents = g.B.Block.contents; durable = g.B.Block.durable; size = g.B.Block.size; faults = g.B.Block.fault_count; done = g.B.Block.done_count } in
    let many = copied_chunks c.copy_group.result c.self.inside.volume.merge in
    life_by g.B.Block.may_hold m g.B.Block.layers (copy_deeds many) (copy_answers many) c.self.inside.volume c.copy_group.new.self c.self.invariant
    (group_answered g.B.Block.may_hold m g.B.Block.layers g.B.Block.copies_runs c.copy_group.result c.self.inside.volume c.copy_group.new.self c.copy_group.ensures.answer c.copy_group.ensures.copied c.copy_group.ensures.same)

pub returns-clause-copied : goal.returns-clause-copied
returns-clause-copied g c = rw (← c.self.view_is) c.copy_group.ensures.copied

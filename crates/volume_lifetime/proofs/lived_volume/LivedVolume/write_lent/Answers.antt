-- The life goes on by a list of deeds.
use Rattle.std.specs.Prelude.{◌+◌}
use Rattle.volume.specs.Lent.{origin_write}
use Rattle.volume.specs.Layering.{Measures}
use Rattle.volume_lifetime.specs.AtOnce.{lent_as, served_answers, served_deeds}
use Rattle.volume_lifetime.proofs.AtOnce.{lent_answered}
use Rattle.volume_lifetime.proofs.Life.{life_by}
use Rattle.volume_lifetime.proofs.lived_volume.LivedVolume.write_lent.Goals as goal

pub invariant_of-self : goal.invariant_of-self
invariant_of-self g c =
    let m : Measures g.row.B.Denot = record { contents = g.B.Block.contents; durable = g.B.Block.durable; size = g.B.Block.size; faults = g.B.Block.fault_count; done = g.B.Block.done_count } in
    let request = origin_write c.args.range c.args.bytes.now in
    let number = c.self.inside.volume.requests + 1 in
    life_by g.B.Block.may_hold m g.B.Block.layers (served_deeds request (lent_as number c.write_lent.result)) (served_answers (lent_as number c.write_lent.result)) c.self.inside.volume c.write_lent.new.self c.self.invariant
    (lent_answered g.B.Block.may_hold m g.B.Block.layers request number c.write_lent.result c.self.inside.volume c.write_lent.new.self c.write_lent.ensures.does c.write_lent.ensures.refused)

-- The life goes on by a list of deeds.
use Rattle.volume.specs.Layering.{Measures}
use Rattle.volume_lifetime.specs.AtOnce.{served_answers, served_deeds}
use Rattle.volume_lifetime.proofs.AtOnce.{served_answered}
use Rattle.volume_lifetime.proofs.Life.{life_by}
use Rattle.volume_lifetime.proofs.lived_volume.LivedVolume.serve.Goals as goal

pub invariant_of-self : goal.invariant_of-self
invariant_of-self g c =
    let m : Measures g.row.B.Denot = record { contents = g.B.Block.contents; durable = g.B.Block.durable; size = g.B.Block.size; faults = g.B.Block.fault_count; done = g.B.Block.done_count } in
    life_by g.B.Block.may_hold m g.B.Block.layers (served_deeds c.args.request c.serve.result) (served_answers c.serve.result) c.self.inside.volume c.serve.new.self c.self.invariant
    (served_answered g.B.Block.may_hold m g.B.Block.layers c.args.request c.serve.result c.self.inside.volume c.serve.new.self c.serve.ensures.does c.serve.ensures.refused)

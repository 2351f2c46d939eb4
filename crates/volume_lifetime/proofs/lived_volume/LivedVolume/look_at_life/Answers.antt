-- What is promised of a list of deeds.
use Rattle.volume.specs.Layering.{Measures}
use Rattle.volume_lifetime.specs.Life.{begun_over}
use Rattle.volume_lifetime.proofs.Lives.{all_lived}
use Rattle.volume_lifetime.proofs.lived_volume.LivedVolume.look_at_life.Goals as goal

pub returns-clause-seen : goal.returns-clause-seen
returns-clause-seen g c = λ life loud brings.
    let m : Measures g.row.B.Denot = record { contents = g.B.Block.contents; durable = g.B.Block.durable; size = g.B.Block.size; faults = g.B.Block.fault_count; done = g.B.Block.done_count } in
    all_lived g.B.Block.may_hold m g.B.Block.layers life.deeds life.dones (begun_over life.origin) c.args.self.now life.lived loud brings

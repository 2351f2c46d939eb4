-- No device is touched, so a stop leaves nothing but what is there.
use Rattle.volume.specs.Layering.{Measures}
use Rattle.served_session_laws.proofs.Loaded.{begun_opened}
use Rattle.served_session.proofs.opened.OpenedVolume.merge.Goals as goal

pub invariant_of-result : goal.invariant_of-result
invariant_of-result g c =
    let m : Measures g.row.B.Denot = record { contents = g.B.Block.contents; durable = g.B.Block.durable; size = g.B.Block.size; faults = g.B.Block.fault_count; done = g.B.Block.done_count } in
    let merged = c.in_ok-merge.ensures in
    begun_opened g.B.Block.may_hold m g.B.Block.layers g.B.Ahead.failed c.args.number c.self.inside.volume c.merge.new.volume c.self.invariant merged.begun

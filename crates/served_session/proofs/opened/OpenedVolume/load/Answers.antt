-- A stop leaves nothing but what is there.
use Rattle.volume.specs.Layering.{Measures}
use Rattle.served_session_laws.proofs.Loaded.{loaded_opened}
use Rattle.served_session.proofs.opened.OpenedVolume.load.Goals as goal

pub invariant_of-result : goal.invariant_of-result
invariant_of-result g c =
    let m : Measures g.row.B.Denot = record { contents = g.B.Block.contents; durable = g.B.Block.durable; size = g.B.Block.size; faults = g.B.Block.fault_count; done = g.B.Block.done_count } in
    loaded_opened g.B.Block.may_hold m g.B.Block.layers g.B.Ahead.failed c.args.chunk c.args.overflow c.args.store c.in_ok-found.field-0-0 c.in_ok-found.found c.self.inside.volume c.load.new.volume c.self.invariant c.in_ok-found.ensures

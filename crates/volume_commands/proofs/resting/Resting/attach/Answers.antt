-- What the volume of events does, and what callers see of it.
use Rattle.volume.specs.Layering.{Measures}
use Rattle.volume_commands.proofs.CallsSeen.{attach_seen}
use Rattle.volume_commands.proofs.resting.Resting.attach.Goals as goal

pub returns-clause-does : goal.returns-clause-does
returns-clause-does g c = rw (← c.self.view_is) c.attach.ensures.does

pub returns-clause-seen : goal.returns-clause-seen
returns-clause-seen g c =
    let m : Measures g.row.B.Denot = record { contents = g.B.Block.contents; durable = g.B.Block.durable; size = g.B.Block.size; faults = g.B.Block.fault_count; done = g.B.Block.done_count } in
    rw (← c.self.view_is) (attach_seen g.B.Block.may_hold m g.B.Block.layers c.args.store c.args.chunk c.args.overflow c.attach.result c.self.inside.volume.volume c.attach.new.self.volume c.attach.ensures.does c.attach.ensures.refused)

pub returns-clause-refused : goal.returns-clause-refused
returns-clause-refused g c = rw (← c.self.view_is) c.attach.ensures.refused

pub returns-clause-places : goal.returns-clause-places
returns-clause-places g c = rw (← c.self.view_is) c.attach.ensures.places

-- What the volume of events does, and what callers see of it.
use Rattle.volume_commands.proofs.CallsSeen.{detach_seen}
use Rattle.volume_commands.proofs.resting.Resting.detach.Goals as goal

pub returns-clause-does : goal.returns-clause-does
returns-clause-does g c = rw (← c.self.view_is) c.detach.ensures.does

pub returns-clause-seen : goal.returns-clause-seen
returns-clause-seen g c =
    rw (← c.self.view_is) (detach_seen g.B.Block.may_hold g.B.Block.contents g.B.Block.layers g.B.Block.size c.args.number c.detach.result c.self.inside.volume.volume c.detach.new.self.volume c.detach.ensures.does c.detach.ensures.err)

pub returns-clause-places : goal.returns-clause-places
returns-clause-places g c = rw (← c.self.view_is) c.detach.ensures.places

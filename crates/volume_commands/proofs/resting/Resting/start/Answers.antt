-- What the volume of events does, and what callers see of it.
use Rattle.volume_commands.proofs.CallsSeen.{start_seen}
use Rattle.volume_commands.proofs.resting.Resting.start.Goals as goal

pub returns-clause-does : goal.returns-clause-does
returns-clause-does g c = rw (← c.self.view_is) c.submit.ensures.does

pub returns-clause-seen : goal.returns-clause-seen
returns-clause-seen g c =
    rw (← c.self.view_is) (start_seen g.B.Block.contents g.B.Block.layers g.B.Block.size c.args.request c.submit.result c.self.inside.volume.volume c.submit.new.self.volume c.submit.ensures.does c.submit.ensures.refused)

pub returns-clause-refused : goal.returns-clause-refused
returns-clause-refused g c = rw (← c.self.view_is) c.submit.ensures.refused

pub returns-clause-places : goal.returns-clause-places
returns-clause-places g c = rw (← c.self.view_is) c.submit.ensures.places

-- What the volume of events does, and what callers see of it.
use Rattle.volume_commands.proofs.CallsSeen.{resume_seen}
use Rattle.volume_commands.proofs.resting.Resting.resume_merge.Goals as goal

pub returns-clause-does : goal.returns-clause-does
returns-clause-does g c = rw (← c.self.view_is) c.resume_merge.ensures.does

pub returns-clause-seen : goal.returns-clause-seen
returns-clause-seen g c =
    rw (← c.self.view_is) (resume_seen g.B.Block.contents g.B.Block.layers g.B.Block.size c.resume_merge.result c.self.inside.volume.volume c.resume_merge.new.self.volume c.resume_merge.ensures.does)

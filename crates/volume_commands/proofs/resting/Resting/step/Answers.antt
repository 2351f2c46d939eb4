-- What the volume of events does, and what callers see of it.
use Rattle.volume_commands.proofs.CallsSeen.{step_seen}
use Rattle.volume_commands.proofs.resting.Resting.step.Goals as goal

pub returns-clause-does : goal.returns-clause-does
returns-clause-does g c = rw (← c.self.view_is) c.step.ensures.does

pub returns-clause-seen : goal.returns-clause-seen
returns-clause-seen g c =
    rw (← c.self.view_is) (step_seen g.B.Block.may_hold g.B.Block.contents g.B.Block.layers g.B.Block.size g.B.Block.fault_count g.B.Block.done_count c.args.event c.step.result c.self.inside.volume.volume c.step.new.self.volume c.step.ensures.does)

pub returns-clause-taken : goal.returns-clause-taken
returns-clause-taken g c = rw (← c.self.view_is) c.step.ensures.taken

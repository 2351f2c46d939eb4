-- What the volume of events does, and what callers see of it.
use Rattle.std.proofs.Common.{None, ◌∙◌}
use Rattle.volume_commands.proofs.CallsSeen.{begin_seen}
use Rattle.volume_commands.proofs.resting.Resting.begin_merge.Goals as goal

pub returns-clause-does : goal.returns-clause-does
returns-clause-does g c = rw (← c.self.view_is) c.begin_merge.ensures.does

pub returns-clause-seen : goal.returns-clause-seen
returns-clause-seen g c =
    rw (← c.self.view_is) (begin_seen g.B.Block.may_hold g.B.Block.contents g.B.Block.layers g.B.Block.size c.args.number c.begin_merge.result c.self.inside.volume.volume c.begin_merge.new.self.volume
    (λ quiet loud. c.is_quiet.ensures.between (c.is_quiet.ensures.value ∙ quiet) loud None) c.begin_merge.ensures.does c.begin_merge.ensures.refused)

pub returns-clause-places : goal.returns-clause-places
returns-clause-places g c = rw (← c.self.view_is) c.begin_merge.ensures.places

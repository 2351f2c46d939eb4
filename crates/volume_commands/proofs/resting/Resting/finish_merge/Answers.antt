-- What the volume of events does, and what callers see of it.
use Rattle.std.proofs.Common.{None, ◌∙◌}
use Rattle.volume.proofs.Accepts.{if_err}
use Rattle.volume_commands.proofs.CallsSeen.{finish_seen}
use Rattle.volume_commands.proofs.resting.Resting.finish_merge.Goals as goal

pub returns-clause-does : goal.returns-clause-does
returns-clause-does g c = rw (← c.self.view_is) c.finish_merge.ensures.does

pub returns-clause-seen : goal.returns-clause-seen
returns-clause-seen g c =
    rw (← c.self.view_is) (finish_seen g.B.Block.may_hold g.B.Block.contents g.B.Block.layers g.B.Block.size c.finish_merge.result c.self.inside.volume.volume c.finish_merge.new.self.volume
    (λ quiet loud. c.is_quiet.ensures.between (c.is_quiet.ensures.value ∙ quiet) loud None) c.finish_merge.ensures.does c.finish_merge.ensures.err)

pub returns-clause-refused : goal.returns-clause-refused
returns-clause-refused g c = rw (← c.self.view_is) (if_err c.finish_merge.result _ _ (λ refusal err. err.0) c.finish_merge.ensures.err)

pub returns-clause-places : goal.returns-clause-places
returns-clause-places g c = rw (← c.self.view_is) c.finish_merge.ensures.places

-- Why it is refused.
use Rattle.std.proofs.Common.{sym, ◌∙◌}
use Rattle.volume_commands.specs.Rested.{rested_of}
use Rattle.volume_commands.proofs.Flushes.{flush_refused_among}
use Rattle.counted_volume.proofs.Takings.{takes_none}
use Rattle.volume_commands.proofs.resting.Resting.flush_among.Goals as goal

pub returns-clause-refused : goal.returns-clause-refused
returns-clause-refused g c =
    rw (← c.self.view_is) (flush_refused_among g.B.Block.may_hold g.B.Block.contents g.B.Block.layers g.B.Block.fault_count g.B.Block.size c.args.dev c.flush_device_among.result (rested_of c.self.inside.volume.volume) (rested_of c.flush_device_among.new.volume.volume) c.args.ended.now.items c.flush_device_among.new.ended.items
    (sym c.is_there.ensures ∙ c.if-not-is_there.false) c.flush_device_among.ensures.failed)

pub returns-clause-taken : goal.returns-clause-taken
returns-clause-taken g c = rw (← c.self.view_is) c.flush_device_among.ensures.taken

pub returns-then-not-is_there-clause-taken : goal.returns-then-not-is_there-clause-taken
returns-then-not-is_there-clause-taken g c = rw (← c.self.view_is) (takes_none c.self.inside.volume)

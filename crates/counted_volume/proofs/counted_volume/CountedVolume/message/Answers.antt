-- Layers alone changed.
use Rattle.std.proofs.Common.{◌+◌, ap}
use Rattle.counted_volume.proofs.Earns.{told_given}
use Rattle.counted_volume.proofs.Fewer.{unseen_have, unseen_marks}
use Rattle.counted_volume.proofs.counted_volume.CountedVolume.message.Goals as goal

pub invariant_of-self : goal.invariant_of-self
invariant_of-self g c = unseen_have c.self.inside.volume c.message.new.self g.B.Block.contents g.B.Block.layers c.self.inside.places c.message.ensures.does.plain (told_given c.self.inside.volume c.message.new.self g.B.Block.may_hold (record { contents = g.B.Block.contents; durable = g.B.Block.durable; size = g.B.Block.size; faults = g.B.Block.fault_count; done = g.B.Block.done_count }) g.B.Block.layers c.args.dev c.args.depth c.args.message.now c.message.result c.message.ensures.does) c.self.invariant

pub returns : goal.returns
returns g c = rw (← c.self.view_is) (record { does = c.message.ensures.does; taken = ap (λ marks. c.self.inside.places + marks) (unseen_marks c.self.inside.volume c.message.new.self g.B.Block.contents g.B.Block.layers c.message.ensures.does.plain) })

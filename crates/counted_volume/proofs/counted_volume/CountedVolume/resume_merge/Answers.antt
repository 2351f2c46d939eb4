-- The merge alone changed.
use Rattle.std.proofs.Common.{◌+◌, ap}
use Rattle.counted_volume.proofs.Earns.{resumed_given}
use Rattle.counted_volume.proofs.Fewer.{unseen_have, unseen_marks}
use Rattle.counted_volume.proofs.counted_volume.CountedVolume.resume_merge.Goals as goal

pub invariant_of-self : goal.invariant_of-self
invariant_of-self g c = unseen_have c.self.inside.volume c.resume_merge.new.self g.B.Block.contents g.B.Block.layers c.self.inside.places c.resume_merge.ensures.does.plain (resumed_given c.self.inside.volume c.resume_merge.new.self g.B.Block.contents g.B.Block.layers c.resume_merge.result c.resume_merge.ensures.does) c.self.invariant

pub returns : goal.returns
returns g c = rw (← c.self.view_is) (record { does = c.resume_merge.ensures.does; taken = ap (λ marks. c.self.inside.places + marks) (unseen_marks c.self.inside.volume c.resume_merge.new.self g.B.Block.contents g.B.Block.layers c.resume_merge.ensures.does.plain) })

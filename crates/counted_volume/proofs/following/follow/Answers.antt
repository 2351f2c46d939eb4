-- The events that follow, or none.
use Rattle.std.proofs.Common.{inl, refl}
use Rattle.counted_volume.specs.Following.{following}
use Rattle.counted_volume.proofs.DoneDue.{done_none}
use Rattle.counted_volume.proofs.Carrying.{none_carried}
use Rattle.counted_volume.proofs.following.follow.Goals as goal

pub returns-in-WriteArea-clause-follows : goal.returns-in-WriteArea-clause-follows
returns-in-WriteArea-clause-follows g c = rw c.in-WriteArea.is (inl (0, c.carry_one.ensures.ends.so))

pub returns-in_default-clause-did : goal.returns-in_default-clause-did
returns-in_default-clause-did g c = done_none g.B.Block.may_hold g.B.Block.contents g.B.Block.layers g.B.Block.fault_count g.B.Block.size c.args.reply c.args.volume.now.volume

pub returns-in_default-clause-follows : goal.returns-in_default-clause-follows
returns-in_default-clause-follows g c = inl (0, none_carried g.B.Block.may_hold g.B.Block.contents g.B.Block.layers g.B.Block.fault_count g.B.Block.size (following c.args.done 0) c.args.reply c.args.reply c.args.volume.now.volume c.args.volume.now.volume refl refl)

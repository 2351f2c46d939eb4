-- The events so far.
use Rattle.volume.specs.Volumed.{left_in_all}
use Rattle.counted_volume.specs.Following.{AreMerged}
use Rattle.counted_volume.proofs.following_merge.follow_group.Given as goal

abbrev pub invariant-loop-volume : goal.invariant-loop-volume
invariant-loop-volume g l = record { so : AreMerged g.B.Block.may_hold g.B.Block.contents g.B.Block.layers g.B.Block.fault_count g.B.Block.size l.fn.volume l.volume }

abbrev pub decreases-loop-volume : goal.decreases-loop-volume
decreases-loop-volume g l = left_in_all g.B.Block.contents g.B.Block.layers l.volume.volume

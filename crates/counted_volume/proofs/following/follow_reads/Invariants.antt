-- The events so far, the last of which was the read of a copy that was due first.
use Rattle.volume.specs.Volumed.{left_in_all}
use Rattle.counted_volume.specs.Following.{AreDoneSo, GoesOn, IsReadFirst}
use Rattle.counted_volume.proofs.following.follow_reads.Given as goal

abbrev pub invariant-loop-next : goal.invariant-loop-next
invariant-loop-next g l = record {
  did : AreDoneSo g.B.Block.may_hold g.B.Block.contents g.B.Block.layers g.B.Block.fault_count g.B.Block.size (GoesOn g.B.Block.contents g.B.Block.layers l.fn.reply l.reply l.fn.volume.volume l.volume.volume) l.fn.reply l.reply l.fn.volume l.volume;
  first : IsReadFirst g.B.Block.contents g.B.Block.layers l.number l.volume.volume;
}

abbrev pub decreases-loop-next : goal.decreases-loop-next
decreases-loop-next g l = left_in_all g.B.Block.contents g.B.Block.layers l.volume.volume

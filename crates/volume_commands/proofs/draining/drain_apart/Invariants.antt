-- The events so far.
use Rattle.std.proofs.Common.{vec_len, vec_capacity}
use Rattle.volume.specs.Volumed.{left_in_all}
use Rattle.volume_commands.proofs.Drains.{DrainsApart}
use Rattle.counted_volume.specs.TakesPlaces.{TakesByRequests}
use Rattle.volume_commands.proofs.draining.drain_apart.Given as goal

abbrev pub invariant-loop-event : goal.invariant-loop-event
invariant-loop-event g l = record {
  so : DrainsApart g.B.Block.may_hold g.B.Block.contents g.B.Block.layers g.B.Block.fault_count g.B.Block.size (vec_len l.ended) (vec_capacity l.ended) l.fn.volume.volume l.volume.volume l.fn.ended.items l.ended.items;
  taken : TakesByRequests l.fn.volume l.volume;
}

abbrev pub decreases-loop-event : goal.decreases-loop-event
decreases-loop-event g l = left_in_all g.B.Block.contents g.B.Block.layers l.volume.volume

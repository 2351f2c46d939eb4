-- A volume without snapshots is whole.
use Rattle.volume.proofs.Empty.{empty_whole}
use Rattle.std.proofs.Common.{arith}
use Rattle.volume.proofs.volume.Volume.new.Goals as goal

pub invariant_of-result : goal.invariant_of-result
invariant_of-result g c = record {
  whole =
      rw (c.in-Ok-with_capacity.ensures.items, c.in-Ok.ensures.items) (empty_whole g.B.Block.contents g.B.Block.layers g.B.Block.size c.args.origin (g.met.B.Block.whole c.args.origin));
  lasting =
      rw (c.in-Ok-with_capacity.ensures.items, c.in-Ok.ensures.items) (record { snaps = λ k d lt. absurd (omega (arith, lt)); merge = tt });
}

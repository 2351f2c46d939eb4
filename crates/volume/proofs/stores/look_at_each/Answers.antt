-- One snapshot more is in step.
use Rattle.snapshot.specs.InStep.{IsInStep}
use Rattle.volume.proofs.Looked.{each_more}
use Rattle.volume.proofs.stores.look_at_each.Goals as goal

pub loop-snap-preserved : goal.loop-snap-preserved
loop-snap-preserved g c =
    each_more (IsInStep g.B.Block.contents g.B.Block.layers g.B.Block.size) c.args.snaps.now c.loop-snap.snap-index c.snap-item.result c.loop-snap-test.true c.snap-item.is c.loop-snap.invariant c.look_at_store.ensures.in_step

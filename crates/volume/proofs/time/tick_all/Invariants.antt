-- The snapshots before the present one are later, the others as they were.
use Rattle.volume.proofs.Relayered.{AreLaterBelow}
use Rattle.volume.proofs.LastTime.{AddsBelow}
use Rattle.volume.proofs.time.tick_all.Given as goal

abbrev pub invariant-loop-k : goal.invariant-loop-k
invariant-loop-k g l =
    AreLaterBelow (record { contents = g.B.Block.contents; durable = g.B.Block.durable; size = g.B.Block.size; faults = g.B.Block.fault_count; done = g.B.Block.done_count }) g.B.Block.layers l.seconds l.k l.fn.snaps l.snaps
    × AddsBelow g.B.Block.may_hold g.B.Block.contents l.k l.fn.snaps l.snaps

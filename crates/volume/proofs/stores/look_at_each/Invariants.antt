-- The snapshots so far are in step.
use Rattle.std.proofs.Common.{◌<◌, ℕ, get_or}
use Rattle.snapshot.specs.Kept.{Kept}
use Rattle.snapshot.specs.InStep.{IsInStep}
use Rattle.volume.proofs.stores.look_at_each.Given as goal

abbrev pub invariant-loop-snap : goal.invariant-loop-snap
invariant-loop-snap g l = (i : ℕ) (d : Kept g.row.B.Denot) → i < l.snap-index → IsInStep g.B.Block.contents g.B.Block.layers g.B.Block.size (get_or l.snaps i d)

-- The snapshots so far are others, or their stores' files answered.
use Rattle.std.proofs.Common.{◌≡◌, drop}
use Rattle.volume_nbd.specs.Faults.{is_store_failed}
use Rattle.volume_nbd.proofs.faults.is_store_failed.Given as goal

abbrev pub invariant-loop-snap : goal.invariant-loop-snap
invariant-loop-snap g l = is_store_failed g.B.Ahead.failed l.number l.snaps ≡ is_store_failed g.B.Ahead.failed l.number (drop l.snap-index l.snaps)

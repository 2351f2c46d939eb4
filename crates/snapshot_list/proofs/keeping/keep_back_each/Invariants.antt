-- The snapshots so far keep back what they do, and nothing else of any has changed.
use Rattle.std.proofs.Common.{◌≡◌, ◌++◌, map, take, drop}
use Rattle.snapshot_list.specs.Keeping.{kept_for, unkept}
use Rattle.snapshot_list.proofs.keeping.keep_back_each.Given as goal

abbrev pub invariant-loop-snap : goal.invariant-loop-snap
invariant-loop-snap g l =
    (l.snaps ≡ map (kept_for l.number l.count l.chunk) (take l.snap-index l.fn.snaps) ++ drop l.snap-index l.fn.snaps) × (map unkept l.snaps ≡ map unkept l.fn.snaps)

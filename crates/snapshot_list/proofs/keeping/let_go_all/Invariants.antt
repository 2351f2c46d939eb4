-- The snapshots so far keep nothing back.
use Rattle.std.proofs.Common.{◌≡◌, ◌++◌, map, take, drop}
use Rattle.snapshot_list.specs.Keeping.{unkept}
use Rattle.snapshot_list.proofs.keeping.let_go_all.Given as goal

abbrev pub invariant-loop-snap : goal.invariant-loop-snap
invariant-loop-snap g l = l.snaps ≡ map unkept (take l.snap-index l.fn.snaps) ++ drop l.snap-index l.fn.snaps

-- The snapshots so far are counted.
use Rattle.std.proofs.Common.{◌+◌, ◌≤◌, length, take}
use Rattle.std.specs.Prelude.{sum_by}
use Rattle.snapshot_list.specs.Numbers.{count_in}
use Rattle.volume_nbd.proofs.submitting.wanted_count.Given as goal

abbrev pub invariant-loop-snap : goal.invariant-loop-snap
invariant-loop-snap g l = l.count ≤ sum_by count_in (take l.snap-index l.snaps) + length l.snaps

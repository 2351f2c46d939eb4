-- The first k of the snapshots were attached before.
use Rattle.std.proofs.Common.{◌≡◌, ◌+◌, ◌-◌, ◌≤◌, drop, length}
use Rattle.device_list.specs.Stopping.{earlier}
use Rattle.device_list.proofs.stopping.earlier.Given as goal

abbrev pub invariant-loop-k : goal.invariant-loop-k
invariant-loop-k l = record {
  so : earlier l.number (drop l.k l.volume.rested.snaps) + l.k ≡ earlier l.number l.volume.rested.snaps;
  most : l.k ≤ length l.volume.rested.snaps;
}

abbrev pub decreases-loop-k : goal.decreases-loop-k
decreases-loop-k l = length l.volume.rested.snaps - l.k

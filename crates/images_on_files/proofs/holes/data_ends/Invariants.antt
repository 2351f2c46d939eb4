use Rattle.std.proofs.Common.{◌-◌, ◌≤◌, length}
use Rattle.images_on_files.proofs.holes.data_ends.Given as goal

abbrev pub invariant-loop-place : goal.invariant-loop-place
invariant-loop-place l = record {
  after : l.from ≤ l.place;
  inside : l.place ≤ length l.bytes;
}

abbrev pub decreases-loop-place : goal.decreases-loop-place
decreases-loop-place l = length l.bytes - l.place

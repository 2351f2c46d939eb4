use Rattle.std.proofs.Common.{◌≡◌, ◌-◌, ◌≤◌, length, take, drop, replicate}
use Rattle.images_on_files.proofs.holes.data_begins.Given as goal

abbrev pub invariant-loop-place : goal.invariant-loop-place
invariant-loop-place l = record {
  after : l.from ≤ l.place;
  inside : l.place ≤ length l.bytes;
  zeros : take (l.place - l.from) (drop l.from l.bytes) ≡ replicate (l.place - l.from) 0;
}

abbrev pub decreases-loop-place : goal.decreases-loop-place
decreases-loop-place l = length l.bytes - l.place

-- So many of the first ones are live.
use Rattle.std.proofs.Common.{◌≡◌, ◌≤◌, map, take}
use Rattle.audited_volume.specs.Noted.{live_count}
use Rattle.counted_volume.proofs.counted_volume.count_live.Given as goal

abbrev pub invariant-loop-k : goal.invariant-loop-k
invariant-loop-k g l = (l.count ≡ live_count (map (λ s. s.live) (take l.k l.volume.snaps))) × (l.count ≤ l.k)

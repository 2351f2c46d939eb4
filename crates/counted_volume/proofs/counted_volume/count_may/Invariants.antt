-- So many of the first ones may be marked.
use Rattle.std.proofs.Common.{◌≡◌, ◌≤◌, map, take}
use Rattle.plain_machine.specs.Plain.{may_overflow}
use Rattle.audited_volume.specs.Noted.{may_count}
use Rattle.counted_volume.proofs.counted_volume.count_may.Given as goal

abbrev pub invariant-loop-k : goal.invariant-loop-k
invariant-loop-k g l = (l.count ≡ may_count (map (λ s. s.live) (take l.k l.volume.snaps)) (map (λ s. may_overflow s.overflow) (take l.k l.volume.snaps))) × (l.count ≤ l.k)

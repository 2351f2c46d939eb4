use Rattle.std.proofs.Common.{◌≡◌, ◌+◌, ◌≤◌, drop}
use Rattle.audited_volume.specs.Noted.{live_count}
use Rattle.audited_volume.proofs.holding.count_live.Given as goal

abbrev pub invariant-loop-live : goal.invariant-loop-live
invariant-loop-live l = (l.count + live_count (drop l.live-index l.lives) ≡ live_count l.lives) × (l.count ≤ l.live-index)

use Rattle.std.proofs.Common.{◌≡◌, ◌+◌, ◌≤◌, drop}
use Rattle.audited_volume.specs.Noted.{may_count}
use Rattle.audited_volume.proofs.holding.count_may.Given as goal

abbrev pub invariant-loop-k : goal.invariant-loop-k
invariant-loop-k l = (l.count + may_count (drop l.k l.lives) (drop l.k l.may) ≡ may_count l.lives l.may) × (l.count ≤ l.k)

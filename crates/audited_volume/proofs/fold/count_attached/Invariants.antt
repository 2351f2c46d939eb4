use Rattle.std.proofs.Common.{◌≡◌, ◌+◌, ◌≤◌, drop}
use Rattle.audited_volume.specs.Inside.{attached_count}
use Rattle.audited_volume.proofs.fold.count_attached.Given as goal

abbrev pub invariant-loop-entry : goal.invariant-loop-entry
invariant-loop-entry l = (l.count + attached_count (drop l.entry-index l.entries) ≡ attached_count l.entries) × (l.count ≤ l.entry-index)

-- So many histories are there.
use Rattle.std.proofs.Common.{◌≡◌, ◌<◌, ℕ, length, slice_index_or}
use Rattle.locked_volume.specs.Beside.{OpenedAt}
use Rattle.volume_threads.proofs.opened.Opened.new.Given as goal

abbrev pub invariant-loop : goal.invariant-loop
invariant-loop l = (length l.opened.items ≡ l.counter) × ((k : ℕ) (d : OpenedAt) → k < l.counter → (slice_index_or l.opened.items k d).next ≡ 1)

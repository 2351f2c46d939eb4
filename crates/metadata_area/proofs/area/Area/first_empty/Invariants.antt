use Rattle.std.proofs.Common.{◌≢◌, ℕ, ◌<◌}
use Rattle.cow_format.specs.Slots.{pair_in}
use Rattle.metadata_area.proofs.area.Area.first_empty.Given as goal

abbrev pub invariant-loop-slot : goal.invariant-loop-slot
invariant-loop-slot l = (k : ℕ) → k < l.slot → (pair_in l.self.bytes.items k).new ≢ 0

use Rattle.std.proofs.Common.{◌≡◌, ℕ, ◌<◌, slice_index_or}
use Rattle.cow_salvage.specs.declared.using.Slot.{Slot}
use Rattle.cow_salvage.proofs.front.front_of.Given as goal

abbrev pub invariant-loop-index : goal.invariant-loop-index
invariant-loop-index l = (k : ℕ) (d : Slot) → k < l.index → (slice_index_or l.slots k d).number ≡ k

use Rattle.std.proofs.Common.{◌≡◌, ℕ, ◌+◌, ◌*◌, ◌<◌}
use Rattle.sector.specs.declared.pair.Pair.{Pair}
use Rattle.cow_format.specs.Slots.{pair_in}
use Rattle.cow_salvage.specs.Used.{used_below}
use Rattle.cow_salvage.proofs.using.take_used.Given as goal

abbrev pub invariant-loop-slot : goal.invariant-loop-slot
invariant-loop-slot l = (slot_at : ℕ → Pair) → ((j : ℕ) → j < 32 * l.area.chunk → slot_at (l.first + j) ≡ pair_in l.area.bytes.items j) → l.initial.slots.items ≡ used_below slot_at l.first → l.slots.items ≡ used_below slot_at (l.first + l.slot)

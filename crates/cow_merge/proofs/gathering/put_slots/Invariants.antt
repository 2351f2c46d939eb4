use Rattle.std.proofs.Common.{◌≡◌, ℕ, ◌*◌, ◌<◌, ◌≤◌, length, get_or}
use Rattle.sector.specs.declared.pair.Pair.{Pair}
use Rattle.cow_format.specs.Slots.{pair_in}
use Rattle.cow_merge.proofs.gathering.put_slots.Given as goal

abbrev pub invariant-loop-slot : goal.invariant-loop-slot
invariant-loop-slot l = record {
  room : 32 * l.area.chunk ≤ length l.slots;
  put : (k : ℕ) (d : Pair) → k < l.slot → get_or l.slots k d ≡ pair_in l.area.bytes.items k;
}

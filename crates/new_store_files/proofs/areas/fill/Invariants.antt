use Rattle.std.proofs.Common.{◌≡◌, ℕ, ◌+◌, ◌<◌, slice_index_or}
use Rattle.sector.specs.declared.pair.Pair.{Pair}
use Rattle.cow_format.specs.Slots.{pair_in}
use Rattle.new_store_files.specs.Parts.{moved}
use Rattle.new_store_files.proofs.areas.fill.Given as goal

abbrev pub invariant-loop-slot : goal.invariant-loop-slot
invariant-loop-slot l = record {
  chunk : l.area.chunk ≡ l.fn.area.chunk;
  pairs : (k : ℕ) (d : Pair) → k < l.slot → pair_in l.area.bytes.items k ≡ moved (slice_index_or l.pairs k d) (l.place + k);
}

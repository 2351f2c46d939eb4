use Rattle.std.proofs.Common.{◌≡◌, ℕ, ◌+◌, ◌-◌, ◌<◌, ◌≤◌, length, slice_index_or}
use Rattle.sector.specs.declared.pair.Pair.{Pair}
use Rattle.new_store_files.proofs.copying.row_from.Given as goal

abbrev pub invariant-loop-count : goal.invariant-loop-count
invariant-loop-count l = record {
  some : 0 < l.count;
  inside : l.low + l.count ≤ length l.pairs;
  row : (q : ℕ) (d : Pair) → q < l.count → (slice_index_or l.pairs (l.low + q) d).new ≡ (slice_index_or l.pairs l.low d).new + q;
}

abbrev pub decreases-loop-count : goal.decreases-loop-count
decreases-loop-count l = length l.pairs - l.count

use Rattle.std.proofs.Common.{ℕ, ◌-◌, ◌<◌, ◌≤◌, length, slice_index_or}
use Rattle.sector.specs.declared.pair.Pair.{Pair}
use Rattle.cow_image.proofs.running.below.Given as goal

abbrev pub invariant-loop-low : goal.invariant-loop-low
invariant-loop-low l = record {
  order : l.low ≤ l.high;
  inside : l.high ≤ length l.pairs;
  below : (k : ℕ) (d : Pair) → k < l.low → (slice_index_or l.pairs k d).old < l.number;
  above : (k : ℕ) (d : Pair) → l.high ≤ k → k < length l.pairs → l.number ≤ (slice_index_or l.pairs k d).old;
}

abbrev pub decreases-loop-low : goal.decreases-loop-low
decreases-loop-low l = l.high - l.low

use Rattle.std.proofs.Common.{ℕ, ◌+◌, ◌<◌, slice_index_or}
use Rattle.sector.specs.declared.pair.Pair.{Pair}
use Rattle.cow_image.proofs.sorting.twice_old.Given as goal

abbrev pub invariant-loop-index : goal.invariant-loop-index
invariant-loop-index l = (k : ℕ) (d : Pair) → k + 1 < l.index → (slice_index_or l.pairs k d).old < (slice_index_or l.pairs (k + 1) d).old

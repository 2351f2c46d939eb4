use Rattle.std.proofs.Common.{ℕ, ◌<◌, slice_index_or}
use Rattle.sector.specs.declared.pair.Pair.{Pair}
use Rattle.cow_format.specs.Pairs.{IsInside}
use Rattle.cow_image.proofs.judging.are_inside.Given as goal

abbrev pub invariant-loop-pair : goal.invariant-loop-pair
invariant-loop-pair l = (k : ℕ) (d : Pair) → k < l.pair-index → IsInside l.chunk l.origin l.size (slice_index_or l.pairs k d)

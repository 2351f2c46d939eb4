-- Pairs of which no two have the same number.
use Rattle.std.specs.Prelude.{◌≢◌, ℕ, ◌<◌, List, length, slice_index_or}
use Rattle.sector.specs.declared.pair.Pair.{Pair}

abbrev pub StandOnce : (Pair → ℕ) → List Pair → Type 0
StandOnce number pairs = (j k : ℕ) (d : Pair) → j < k → k < length pairs → number (slice_index_or pairs j d) ≢ number (slice_index_or pairs k d)

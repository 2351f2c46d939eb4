-- Pairs in the order of their chunks.
use Rattle.std.specs.Prelude.{◌≡◌, ℕ, ◌+◌, ◌<◌, List, length, slice_index_or}
use Rattle.sector.specs.declared.pair.Pair.{Pair}

-- each number of the pairs is less than that of the next pair
abbrev pub IsRisingBy : (Pair → ℕ) → List Pair → Type 0
IsRisingBy number pairs = (k : ℕ) (d : Pair) → k + 1 < length pairs → number (slice_index_or pairs k d) < number (slice_index_or pairs (k + 1) d)

-- the old chunk of a pair, and the new one
abbrev pub old_of : Pair → ℕ
old_of pair = pair.old

abbrev pub new_of : Pair → ℕ
new_of pair = pair.new

-- two pairs in a row that have a number
abbrev pub StandsTwice : (Pair → ℕ) → List Pair → ℕ → Type 0
StandsTwice number pairs n = (k : ℕ) × (k + 1 < length pairs) × ((d : Pair) → number (slice_index_or pairs k d) ≡ n) × ((d : Pair) → number (slice_index_or pairs (k + 1) d) ≡ n)

-- To be believed: `run`'s output, a volume's steps or its attach are said in these words.
-- The pairs that a merge takes next: the last pair of the current area and those before it in that area while the old chunk
-- and the new one both fall by one. The rule is the kernel's, of dm-snap-persistent.c.
use Rattle.std.specs.Prelude.{◌≡◌, ◌⊎◌, ℕ, zero, suc, ◌+◌, ◌-◌, ◌<◌, ◌≤◌, List, [], ◌∷◌, length, drop, slice_index_or}
use Rattle.sector.specs.declared.pair.Pair.{Pair}

-- pair k of a run that begins with a pair, in which both chunks rise by one
abbrev pub shifted : Pair → ℕ → Pair
shifted first k = record { old = first.old + k; new = first.new + k }

-- pairs k, k + 1, .. of that run, so many of them
abbrev pub run_at : Pair → ℕ → ℕ → List Pair
run_at first k zero = []
run_at first k (suc n) = shifted first k ∷ run_at first (k + 1) n

-- both chunks of the second pair are those after the first pair's
pub record Follows (before after : Pair) : Type 0 where
  pub old : after.old ≡ before.old + 1
  pub new : after.new ≡ before.new + 1

-- so many of the last pairs are the run that begins with a pair
pub record EndsWithRun (pairs : List Pair) (first : Pair) (count : ℕ) : Type 0 where
  pub fits : count ≤ length pairs
  pub run : drop (length pairs - count) pairs ≡ run_at first 0 count

-- The next group of a store whose current area has so many slots in use: so many of its last pairs, from `first` on. It is
-- the longest such run.
pub record IsGroup (filled : ℕ) (pairs : List Pair) (first : Pair) (count : ℕ) : Type 0 where
  pub some : 0 < count
  pub fits : count ≤ filled
  pub ends : EndsWithRun pairs first count
  pub most : (count ≡ filled) ⊎ ((d : Pair) → Follows (slice_index_or pairs (length pairs - (count + 1)) d) first → ⊥)

-- Pairs that are read area by area.
use Rattle.std.specs.Prelude.{◌≡◌, ◌≢◌, ℕ, ◌+◌, ◌*◌, ◌<◌, ◌≤◌, List, length, slice_index_or}
use Rattle.sector.specs.declared.pair.Pair.{Pair}
use Rattle.cow_format.specs.Slots.{pair_in}
use Rattle.cow_format.specs.Places.{chunk_at, area_place, slot}
use Rattle.cow_format.specs.Pairs.{pairs_of}

-- a list of pairs that has those of an area's first slots more, up to the first that is empty
pub record IsLoaded (pairs pairs' : List Pair) (area : List ℕ) (slots count : ℕ) : Type 0 where
  pub few : count ≤ slots
  pub len : length pairs' ≡ length pairs + count
  pub before : (k : ℕ) (d : Pair) → k < length pairs → slice_index_or pairs' k d ≡ slice_index_or pairs k d
  pub more : (k : ℕ) (d : Pair) → k < count → slice_index_or pairs' (length pairs + k) d ≡ pair_in area k
  pub valid : (k : ℕ) → k < count → (pair_in area k).new ≢ 0
  pub ends : count < slots → (pair_in area count).new ≡ 0

-- the pairs of the areas below one, all of them full
pub record IsPrefix (chunk : ℕ) (bytes : List ℕ) (a : ℕ) (pairs : List Pair) : Type 0 where
  pub len : length pairs ≡ a * (32 * chunk)
  pub each : (k : ℕ) (d : Pair) → k < length pairs → slot chunk bytes k ≡ slice_index_or pairs k d
  pub valid : (k : ℕ) → k < length pairs → (slot chunk bytes k).new ≢ 0

-- All pairs of a store's bytes, and the area of the first empty slot.
pub record IsRead (chunk size : ℕ) (bytes : List ℕ) (current : ℕ) (pairs : List Pair) (area : List ℕ) : Type 0 where
  pub all : pairs_of chunk bytes ≡ pairs
  pub low : current * (32 * chunk) ≤ length pairs
  pub high : length pairs < current * (32 * chunk) + 32 * chunk
  pub inside : chunk * (area_place chunk current + 1) ≤ size
  pub here : area ≡ chunk_at chunk bytes (area_place chunk current)

-- The pairs that a store may be left with, by each value that a sector of its areas may hold.
use Rattle.std.specs.Prelude.{◌≡◌, ◌≢◌, ◌⊎◌, ℕ, ◌+◌, ◌*◌, ◌/◌, ◌%◌, ◌<◌, ◌≤◌, List, length, slice_index_or}
use Rattle.sector.specs.declared.pair.Pair.{Pair}
use Rattle.cow_format.specs.Slots.{pair_in}
use Rattle.cow_format.specs.Places.{area_place}

-- the sector that has slot k, where the slots of all areas are counted on, and the slot's number in that sector
abbrev pub sector_of : ℕ → ℕ → ℕ
sector_of chunk k = chunk * area_place chunk (k / (32 * chunk)) + k % (32 * chunk) / 32

abbrev pub number_of : ℕ → ℕ → ℕ
number_of chunk k = k % (32 * chunk) % 32

-- what slot k may hold: the first pairs of the list surely, then each pair of it or none, then none
pub record SlotMay (certain : ℕ) (pairs : List Pair) (k : ℕ) (p : Pair) : Type 0 where
  pub sure : (d : Pair) → k < certain → p ≡ slice_index_or pairs k d
  pub maybe : (d : Pair) → certain ≤ k → k < length pairs → (p ≡ slice_index_or pairs k d) ⊎ (p.new ≡ 0)
  pub past : length pairs ≤ k → p.new ≡ 0

-- each value of each sector up to that of slot `last`
pub record MayList (chunk certain last : ℕ) (pairs : List Pair) (holds : ℕ → List ℕ → Type 0) : Type 0 where
  pub low : certain ≤ length pairs
  pub reach : length pairs ≤ last
  pub valid : (k : ℕ) (d : Pair) → k < length pairs → (slice_index_or pairs k d).new ≢ 0
  pub slots : (k : ℕ) (v : List ℕ) → k ≤ last → holds (sector_of chunk k) v → SlotMay certain pairs k (pair_in v (number_of chunk k))

-- What a store writes into its areas: the format of dm-snap-persistent.c.
use Rattle.std.specs.Prelude.{◌≡◌, ◌⊎◌, ℕ, ◌+◌, ◌*◌, ◌<◌, ◌≤◌, List, [], ◌∷◌, ◌++◌, length, slice_index_or}
use Rattle.sector.specs.Bytes.{with_part}
use Rattle.sector.specs.declared.pair.Pair.{Pair}
use Rattle.cow_format.specs.Slots.{pair_bytes, pair_in}
use Rattle.cow_format.specs.Places.{area_place}

-- the bytes of pairs, one after the other
abbrev pub pairs_bytes : List Pair → List ℕ
pairs_bytes [] = []
pairs_bytes (pair ∷ pairs) = pair_bytes pair ++ pairs_bytes pairs

-- the byte of a store where a slot of an area begins
abbrev pub slot_start : ℕ → ℕ → ℕ → ℕ
slot_start chunk a slot = 512 * (chunk * area_place chunk a) + 16 * slot

-- an area into which these pairs were put, from a slot on
pub record IsPut (area : List ℕ) (slot : ℕ) (pairs : List Pair) (area' : List ℕ) : Type 0 where
  pub all : area' ≡ with_part area (16 * slot) (pairs_bytes pairs)
  pub len : length area' ≡ length area
  pub here : (i : ℕ) (d : Pair) → i < length pairs → pair_in area' (slot + i) ≡ slice_index_or pairs i d
  pub others : (k : ℕ) → (k < slot) ⊎ (slot + length pairs ≤ k) → pair_in area' k ≡ pair_in area k

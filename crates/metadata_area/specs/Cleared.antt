-- Areas with empty slots, and with bytes after one. The format of dm-snap-persistent.c ends its list at the first slot
-- whose new chunk is 0, and says nothing of what follows it.
use Rattle.std.specs.Prelude.{◌≡◌, ◌≢◌, ℕ, ◌+◌, ◌-◌, ◌*◌, ◌≤◌, List, ◌++◌, length, take, replicate, slice_index}
use Rattle.sector.specs.Bytes.{with_part}
use Rattle.sector.specs.declared.pair.Pair.{Pair}

-- what an empty slot of zeros holds
abbrev pub no_pair : Pair
no_pair = record { old = 0; new = 0 }

-- an area with zeros from a slot on
abbrev pub zero_from : List ℕ → ℕ → List ℕ
zero_from area slot = take (16 * slot) area ++ replicate (length area - 16 * slot) 0

-- an area with zeros in so many slots from one on
abbrev pub zero_slots : List ℕ → ℕ → ℕ → List ℕ
zero_slots area slot count = with_part area (16 * slot) (replicate (16 * count) 0)

-- a byte other than 0 after a slot
abbrev pub HasTail : List ℕ → ℕ → Type 0
HasTail area slot = (i : ℕ) × (16 * slot + 16 ≤ i) × (slice_index area i ≢ 0)

-- no byte other than 0 after a slot
abbrev pub HasNoTail : List ℕ → ℕ → Type 0
HasNoTail area slot = (i : ℕ) → 16 * slot + 16 ≤ i → slice_index area i ≡ 0

-- To be believed: `run`'s output, a volume's steps or its attach are said in these words.
-- Chunks, and the places of areas among them: the format of dm-snap-persistent.c. Chunk 0 of a store is its header.
-- An area is one chunk of 32 pairs a sector; as many chunks of copies follow it, and then the next area.
use Rattle.std.specs.Prelude.{◌≡◌, ◌≢◌, ◌==◌, ℕ, ◌+◌, ◌*◌, ◌/◌, ◌%◌, List, length, Bool}
use Rattle.sector.specs.Bytes.{sectors_at}
use Rattle.sector.specs.declared.pair.Pair.{Pair}
use Rattle.cow_format.specs.Slots.{pair_in}

-- the bytes of chunk n, where a chunk has so many sectors
abbrev pub chunk_at : ℕ → List ℕ → ℕ → List ℕ
chunk_at chunk bytes n = sectors_at bytes (chunk * n) chunk

-- the chunk that is area a
abbrev pub area_place : ℕ → ℕ → ℕ
area_place chunk a = a * (32 * chunk + 1) + 1

-- whether a chunk is an area's
abbrev pub is_area_place : ℕ → ℕ → Bool
is_area_place chunk n = n % (32 * chunk + 1) == 1

-- the pair in slot k, where the slots of areas 0, 1, .. are counted on
abbrev pub slot : ℕ → List ℕ → ℕ → Pair
slot chunk bytes k = pair_in (chunk_at chunk bytes (area_place chunk (k / (32 * chunk)))) (k % (32 * chunk))

-- bytes that are the same in each chunk but one
pub record ChangesOnly (chunk n : ℕ) (old new : List ℕ) : Type 0 where
  pub len : length new ≡ length old
  pub rest : (m : ℕ) → m ≢ n → chunk_at chunk new m ≡ chunk_at chunk old m

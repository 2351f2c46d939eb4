-- The parts of a new store.
use Rattle.std.specs.Prelude.{◌≡◌, ℕ, ◌+◌, ◌*◌, ◌<◌, ◌≤◌, List, length, slice_index_or, true}
use Rattle.sector.specs.declared.pair.Pair.{Pair}
use Rattle.cow_format.specs.Slots.{pair_in}
use Rattle.cow_format.specs.Places.{chunk_at, area_place, slot}
use Rattle.cow_header.specs.HeaderText.{header_bytes}
use Rattle.metadata_area.specs.Cleared.{no_pair}
use Rattle.new_store_files.specs.Written.{place_at}

-- a pair with another place
abbrev pub moved : Pair → ℕ → Pair
moved pair place = record { old = pair.old; new = place }

-- so many chunks, one behind the other, are those of an image that these pairs name
abbrev pub AreCopies : ℕ → List ℕ → List Pair → ℕ → List ℕ → Type 0
AreCopies chunk image pairs count bytes = (k : ℕ) (d : Pair) → k < count → chunk_at chunk bytes k ≡ chunk_at chunk image (slice_index_or pairs k d).new

-- an area of these pairs, with places in a row from one on, and their copies
pub record IsAreaOf (chunk : ℕ) (image : List ℕ) (place : ℕ) (pairs : List Pair) (bytes : List ℕ) : Type 0 where
  pub whole : length bytes ≡ 512 * (chunk * (length pairs + 1))
  pub slots : (k : ℕ) (d : Pair) → k < length pairs → pair_in (chunk_at chunk bytes 0) k ≡ moved (slice_index_or pairs k d) (place + k)
  pub empty : (k : ℕ) → length pairs ≤ k → pair_in (chunk_at chunk bytes 0) k ≡ no_pair
  pub copied : (k : ℕ) (d : Pair) → k < length pairs → chunk_at chunk bytes (k + 1) ≡ chunk_at chunk image (slice_index_or pairs k d).new

-- the header and so many full areas of a store of these pairs
pub record IsFrontOf (chunk : ℕ) (image : List ℕ) (pairs : List Pair) (areas : ℕ) (bytes : List ℕ) : Type 0 where
  pub whole : length bytes ≡ 512 * (chunk * area_place chunk areas)
  pub header : chunk_at chunk bytes 0 ≡ header_bytes (512 * chunk) true chunk
  pub slots : (k : ℕ) (d : Pair) → k < areas * (32 * chunk) → slot chunk bytes k ≡ moved (slice_index_or pairs k d) (place_at chunk k)
  pub copied : (k : ℕ) (d : Pair) → k < areas * (32 * chunk) → chunk_at chunk bytes (place_at chunk k) ≡ chunk_at chunk image (slice_index_or pairs k d).new

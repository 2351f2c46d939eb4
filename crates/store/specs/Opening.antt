-- What a load of a store's bytes answers, for an origin and a store of so many sectors.
use Rattle.std.specs.Prelude.{◌≡◌, ◌⊎◌, ℕ, ◌+◌, ◌*◌, ◌<◌, ◌≤◌, List, [], length, true, false, Ok, Err}
use Rattle.sector.specs.Bytes.{sector_at, next_count}
use Rattle.sector.specs.declared.pair.Pair.{Pair}
use Rattle.sector.specs.declared.refusal.Refusal.{Refusal}
use Rattle.sector.specs.declared.refusal.Refusal.TheVariants.{NoMemory, Io, BadHeader, BadVersion, BadChunk, Invalid, StoreTooSmall, Damaged}
use Rattle.cow_format.specs.Places.{chunk_at, area_place}
use Rattle.cow_format.specs.Pairs.{pairs_of, AreWellFormed}
use Rattle.metadata_area.specs.Cleared.{HasTail, HasNoTail}
use Rattle.cow_header.specs.HeaderText.{found_in}
use Rattle.cow_header.specs.declared.found.Found.{Found}
use Rattle.cow_header.specs.declared.found.Found.TheVariants.{Fresh, Header}
use Rattle.store.specs.declared.state.Left.TheVariants.{FirstArea, Tail, Nothing}
use Rattle.store.specs.declared.state.State.{State}

-- the chunk size in use: a fresh store takes the one of the table line, a header has its own
abbrev pub chunk_found : ℕ → Found → ℕ
chunk_found line Fresh = line
chunk_found line (Header chunk) = chunk

-- Why a load is refused. For want of memory and for a device's fault this says nothing. A device without a sector is too
-- small, whatever it would say; else the first sector is judged, then the size, and then the pairs.
abbrev pub IsRefused : ℕ → ℕ → ℕ → List ℕ → Refusal → Type 0
IsRefused line origin size bytes NoMemory = Unit {0}
IsRefused line origin size bytes Io = Unit {0}
IsRefused line origin size bytes BadHeader = (0 < size) × (found_in (sector_at bytes 0) ≡ Err BadHeader)
IsRefused line origin size bytes BadVersion = (0 < size) × (found_in (sector_at bytes 0) ≡ Err BadVersion)
IsRefused line origin size bytes BadChunk = (0 < size) × (found_in (sector_at bytes 0) ≡ Err BadChunk)
IsRefused line origin size bytes Invalid = (0 < size) × (found_in (sector_at bytes 0) ≡ Err Invalid)
IsRefused line origin size bytes StoreTooSmall = (size ≡ 0) ⊎ ((found : Found) × (found_in (sector_at bytes 0) ≡ Ok found) × (size < 2 * chunk_found line found))
IsRefused line origin size bytes Damaged = (chunk : ℕ) × (found_in (sector_at bytes 0) ≡ Ok (Header chunk)) × (2 * chunk ≤ size) × (AreWellFormed chunk origin size (pairs_of chunk bytes) → ⊥)
IsRefused line origin size bytes _ = ⊥

-- a fresh store that was opened: it has no pairs, and area 0, which is to be zeroed, is its current one
pub record IsOpenedFresh (line origin size : ℕ) (bytes : List ℕ) (s : State) (committed : List Pair) : Type 0 where
  pub found : found_in (sector_at bytes 0) ≡ Ok Fresh
  pub large : 2 * line ≤ size
  pub none : committed ≡ []
  pub state : s ≡ record { chunk = line; origin = origin; size = size; current = 0; filled = 0; zeroed = false; firm = false; sure = 0; left = FirstArea; awaits = true; copying = true; valid = true }

-- A written store that was opened: its pairs, which are well formed, are those of its bytes, and the area of the first
-- empty slot is its current one. That area is to be written where a byte other than 0 follows that slot.
pub record IsOpenedWritten (origin size : ℕ) (bytes : List ℕ) (s : State) (committed : List Pair) : Type 0 where
  pub found : found_in (sector_at bytes 0) ≡ Ok (Header s.chunk)
  pub large : 2 * s.chunk ≤ size
  pub pairs : pairs_of s.chunk bytes ≡ committed
  pub formed : AreWellFormed s.chunk origin size committed
  pub count : length committed ≡ s.current * (32 * s.chunk) + s.filled
  pub part : s.filled < 32 * s.chunk
  pub tail : (s.left ≡ Tail) × HasTail (chunk_at s.chunk bytes (area_place s.chunk s.current)) s.filled ⊎ (s.left ≡ Nothing) × HasNoTail (chunk_at s.chunk bytes (area_place s.chunk s.current)) s.filled
  pub rest : (s.origin ≡ origin) × (s.size ≡ size) × (s.zeroed ≡ false) × (s.firm ≡ false) × (s.awaits ≡ true) × (s.copying ≡ true)
  pub sure : s.sure ≡ 0
  pub valid : s.valid ≡ true

-- why a first sector is refused
abbrev pub IsFirstRefusal : ℕ → List ℕ → Refusal → Type 0
IsFirstRefusal size bytes refusal = (refusal ≡ Io) ⊎ ((refusal ≡ StoreTooSmall) × (size ≡ 0)) ⊎ ((0 < size) × (found_in (sector_at bytes 0) ≡ Err refusal))

-- how many faults a device has counted after a load was refused: one more where that is for a fault
abbrev pub faults_after : Refusal → ℕ → ℕ
faults_after Io faults = next_count faults
faults_after _ faults = faults

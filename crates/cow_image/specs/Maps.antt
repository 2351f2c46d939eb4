-- What a store's bytes are read as, for an origin of so many sectors.
use Rattle.std.specs.Prelude.{◌≡◌, ℕ, ◌*◌, ◌/◌, ◌<◌, ◌≤◌, List, length, Ok, Err}
use Rattle.std.specs.List.Sorted.{IsPermutation}
use Rattle.sector.specs.Bytes.{sector_at}
use Rattle.cow_header.specs.HeaderText.{found_in}
use Rattle.cow_header.specs.declared.found.Found.TheVariants.{Fresh as NoHeader, Header as GoodHeader}
use Rattle.cow_format.specs.Pairs.{pairs_of, AreWellFormed}
use Rattle.cow_image.specs.declared.map.CowMap.{CowMap}
use Rattle.cow_image.specs.declared.found.Reason.{Reason}
use Rattle.cow_image.specs.declared.found.Reason.TheVariants.{Empty, Header, TooSmall, NoRoom, NoArea, Pairs}
use Rattle.cow_image.specs.declared.found.Told.{Told}
use Rattle.cow_image.specs.declared.found.Told.TheVariants.{Fresh, Refused, Written}
use Rattle.cow_image.specs.Judged.{IsFirstFault, IsLacking}

-- the map of a store that a load accepts
pub record IsMapOf (origin : ℕ) (bytes : List ℕ) (map : CowMap) : Type 0 where
  pub whole : length bytes ≡ 512 * map.size
  pub header : found_in (sector_at bytes 0) ≡ Ok (GoodHeader map.chunk)
  pub large : 2 * map.chunk ≤ map.size
  pub formed : AreWellFormed map.chunk origin map.size (pairs_of map.chunk bytes)
  pub pairs : IsPermutation (pairs_of map.chunk bytes) map.pairs.items
  pub current : map.current ≡ length (pairs_of map.chunk bytes) / (32 * map.chunk)

-- bytes with a good header, that are two chunks at least
pub record IsSound (bytes : List ℕ) (chunk size : ℕ) : Type 0 where
  pub whole : length bytes ≡ 512 * size
  pub header : found_in (sector_at bytes 0) ≡ Ok (GoodHeader chunk)
  pub large : 2 * chunk ≤ size

-- why a store is refused, the first reason in the order of a load
abbrev pub IsReason : ℕ → List ℕ → Reason → Type 0
IsReason origin bytes Empty = length bytes ≡ 0
IsReason origin bytes (Header refusal) = found_in (sector_at bytes 0) ≡ Err refusal
IsReason origin bytes (TooSmall chunk) = (found_in (sector_at bytes 0) ≡ Ok (GoodHeader chunk)) × (length bytes < 512 * (2 * chunk))
IsReason origin bytes NoRoom = (found_in (sector_at bytes 0) ≡ Ok NoHeader) × (length bytes < 512 * 2)
IsReason origin bytes (NoArea area) = (chunk : ℕ) × (size : ℕ) × IsSound bytes chunk size × IsLacking chunk size (pairs_of chunk bytes) area × (AreWellFormed chunk origin size (pairs_of chunk bytes) → ⊥)
IsReason origin bytes (Pairs fault) = (chunk : ℕ) × (size : ℕ) × IsSound bytes chunk size × IsFirstFault chunk origin size (pairs_of chunk bytes) fault × (AreWellFormed chunk origin size (pairs_of chunk bytes) → ⊥)

-- what a store's bytes are read as
abbrev pub IsToldOf : ℕ → List ℕ → Told → Type 0
IsToldOf origin bytes Fresh = (found_in (sector_at bytes 0) ≡ Ok NoHeader) × (512 * 2 ≤ length bytes)
IsToldOf origin bytes (Refused reason) = IsReason origin bytes reason
IsToldOf origin bytes (Written map) = IsMapOf origin bytes map

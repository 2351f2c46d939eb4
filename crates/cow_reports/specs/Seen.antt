-- What is known of a store's image.
use Rattle.std.specs.Prelude.{◌≡◌, ℕ, ◌*◌, ◌<◌, List, length, Option, Some, None}
use Rattle.sector.specs.Bytes.{sector_at}
use Rattle.sector.specs.Number.{number_at}
use Rattle.cow_image.specs.Maps.{IsToldOf}
use Rattle.cow_reports.specs.declared.showing.Numbers.{Numbers}
use Rattle.cow_reports.specs.declared.looking.Seen.{Seen}

-- the four numbers of a first sector, where there is one
abbrev pub AreNumbersIn : List ℕ → Option Numbers → Type 0
AreNumbersIn bytes None = length bytes ≡ 0
AreNumbersIn bytes (Some n) = (0 < length bytes) × (n.magic ≡ number_at (sector_at bytes 0) 0 4) × (n.valid ≡ number_at (sector_at bytes 0) 4 4) × (n.version ≡ number_at (sector_at bytes 0) 8 4) × (n.chunk ≡ number_at (sector_at bytes 0) 12 4)

-- what is seen of a store's bytes, for an origin of so many sectors
pub record IsSeenOf (origin : ℕ) (bytes : List ℕ) (seen : Seen) : Type 0 where
  pub whole : length bytes ≡ 512 * seen.sectors
  pub numbers : AreNumbersIn bytes seen.numbers
  pub told : IsToldOf origin bytes seen.told

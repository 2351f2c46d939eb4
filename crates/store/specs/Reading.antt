-- The reads of a load over a device's layers: the first sector, and then the areas of a written store. Their order, and that
-- the first read that fails ends a load with Io, are this project's rules.
use Rattle.std.specs.Prelude.{◌≡◌, ◌⊎◌, ◌==◌, ℕ, zero, suc, ◌+◌, ◌*◌, ◌/◌, nat_lt, List, [], ◌∷◌, length, Option, Some, None, Result, Ok, Err, if◌then◌else◌}
use Rattle.sector.specs.Bytes.{sector_at}
use Rattle.sector.specs.declared.refusal.Refusal.{Refusal}
use Rattle.sector.specs.declared.refusal.Refusal.TheVariants.{NoMemory, Io, StoreTooSmall, Damaged}
use Rattle.device.specs.declared.operation.Operation.{Operation}
use Rattle.device.specs.declared.operation.Operation.TheVariants.{Reads}
use Rattle.device.specs.Layers.{Layer, fate, is_answered, layers_after}
use Rattle.cow_format.specs.Places.{area_place}
use Rattle.cow_format.specs.Pairs.{pairs_of}
use Rattle.cow_header.specs.HeaderText.{found_in}
use Rattle.cow_header.specs.declared.found.Found.{Found}
use Rattle.cow_header.specs.declared.found.Found.TheVariants.{Fresh, Header}

-- the layers after the reads that were done, and why the load is refused after them, if it is
pub record Reading : Type 0 where
  pub layers : List Layer
  pub refused : Option Refusal

abbrev pub ended : Refusal → List Layer → Reading
ended refusal layers = record { layers = layers; refused = Some refusal }

abbrev pub all_read : List Layer → Reading
all_read layers = record { layers = layers; refused = None }

-- a read, and what follows where it is answered
abbrev pub read_on : List Layer → Operation → (List Layer → Reading) → Reading
read_on layers op next = if is_answered (fate layers op) then next (layers_after layers op) else ended Io (layers_after layers op)

-- so many areas, from area a on; a store of so many sectors that lacks one is damaged
abbrev pub read_areas : ℕ → ℕ → ℕ → ℕ → List Layer → Reading
read_areas chunk size a zero layers = all_read layers
read_areas chunk size a (suc n) layers =
    if nat_lt size (chunk * (area_place chunk a + 1)) then ended Damaged layers
    else read_on layers (Reads (chunk * area_place chunk a) chunk) (read_areas chunk size (a + 1) n)

-- the areas up to the one of the first empty slot
abbrev pub read_pairs : ℕ → ℕ → List ℕ → List Layer → Reading
read_pairs chunk size bytes layers = read_areas chunk size 0 (length (pairs_of chunk bytes) / (32 * chunk) + 1) layers

-- after the first sector, by what it says
abbrev pub read_found : ℕ → ℕ → List ℕ → Result Found Refusal → List Layer → Reading
read_found line size bytes (Err refusal) layers = ended refusal layers
read_found line size bytes (Ok Fresh) layers = if nat_lt size (2 * line) then ended StoreTooSmall layers else all_read layers
read_found line size bytes (Ok (Header chunk)) layers = if nat_lt size (2 * chunk) then ended StoreTooSmall layers else read_pairs chunk size bytes layers

-- all reads of a load
unfoldable pub reading : ℕ → ℕ → List ℕ → List Layer → Reading
reading line size bytes layers =
    if size == 0 then ended StoreTooSmall layers else read_on layers (Reads 0 1) (read_found line size bytes (found_in (sector_at bytes 0)))

-- the layers after reads of these sectors: the first, and how many they are
abbrev pub layers_read : List Layer → List (ℕ × ℕ) → List Layer
layers_read layers [] = layers
layers_read layers (range ∷ ranges) = layers_read (layers_after layers (Reads range.0 range.1)) ranges

-- some reads were done, and nothing else
abbrev pub AreRead : List Layer → List Layer → Type 0
AreRead old new = (ranges : List (ℕ × ℕ)) × (new ≡ layers_read old ranges)

-- How a load that is refused leaves the layers: for want of memory after some reads, by its reads, or, where the pairs are
-- not well formed, after all of them.
abbrev pub IsEnded : Reading → Refusal → List Layer → List Layer → Type 0
IsEnded load refusal old new = ((refusal ≡ NoMemory) × AreRead old new) ⊎ (load ≡ ended refusal new) ⊎ ((refusal ≡ Damaged) × (load ≡ all_read new))

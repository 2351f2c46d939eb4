-- How far a load came for which memory was refused, and that no refusal came before that.
use Rattle.std.specs.Prelude.{◌≡◌, ℕ, ◌+◌, ◌*◌, ◌/◌, ◌≤◌, List, length, true, Ok}
use Rattle.sector.specs.Bytes.{sector_at}
use Rattle.device.specs.declared.operation.Operation.TheVariants.{Reads}
use Rattle.device.specs.Layers.{Layer, fate, is_answered, layers_after}
use Rattle.cow_format.specs.Pairs.{pairs_of}
use Rattle.cow_header.specs.HeaderText.{found_in}
use Rattle.cow_header.specs.declared.found.Found.{Found}
use Rattle.cow_header.specs.declared.found.Found.TheVariants.{Fresh, Header}
use Rattle.store.specs.Opening.{chunk_found}
use Rattle.store.specs.Reading.{all_read, read_areas}

-- So many areas of a written store, none past the one of the first empty slot, are there and were read.
pub record ArePartRead (chunk size : ℕ) (bytes : List ℕ) (old new : List Layer) : Type 0 where
  pub areas : ℕ
  pub few : areas ≤ length (pairs_of chunk bytes) / (32 * chunk) + 1
  pub reads : read_areas chunk size 0 areas old ≡ all_read new

-- what was read after the first sector, by what that says; of a fresh store nothing
abbrev pub IsReadAfter : Found → ℕ → List ℕ → List Layer → List Layer → Type 0
IsReadAfter Fresh size bytes old new = new ≡ old
IsReadAfter (Header chunk) size bytes old new = ArePartRead chunk size bytes old new

-- The first sector was read and is good, the store is large enough, and of the areas some were read, the first ones.
pub record IsStarved (line size : ℕ) (bytes : List ℕ) (old new : List Layer) : Type 0 where
  pub found : Found
  pub good : found_in (sector_at bytes 0) ≡ Ok found
  pub large : 2 * chunk_found line found ≤ size
  pub answered : is_answered (fate old (Reads 0 1)) ≡ true
  pub after : IsReadAfter found size bytes (layers_after old (Reads 0 1)) new

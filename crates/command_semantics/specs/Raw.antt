-- To be believed: `run`'s output, a volume's steps or its attach are said in these words.
-- Loading, saving and copying raw sectors of disks, past all layers. The commands are this project's own.
use Rattle.std.specs.Prelude.{◌==◌, ℕ, ◌+◌, ◌/◌, ◌%◌, ◌&&◌, Bool, false, List, [], ◌∷◌, length, nat_lt, slice_get, if◌then◌else◌, Option, Some, None, Result, Ok, Err}
use Rattle.sector.specs.Bytes.{sectors_at, with_sectors}
use Rattle.sector.specs.declared.refusal.Refusal.{Refusal}
use Rattle.sector.specs.declared.refusal.Refusal.TheVariants.{BadTable, OutOfRange, Busy, NoSuchDevice}
use Rattle.device.specs.Layers.{Layer}
use Rattle.layers.specs.Windows.{raw_of, has_disk}
use Rattle.words.specs.Given.{◌>>=◌}
use Rattle.command.specs.Words.{sectors_of}
use Rattle.whole_commands.specs.Devices.{Device}
use Rattle.command_semantics.specs.declared.place.Role.{Role}
use Rattle.command_semantics.specs.declared.place.Role.TheVariants.{Origin, Under, Snapshot, Store, Merging, MergingStore}
use Rattle.command_semantics.specs.declared.place.Place.{Place}
use Rattle.command_semantics.specs.declared.place.Place.TheVariants.{Free, In}
use Rattle.command_semantics.specs.State.{Stacked, Names, Volume, Table}
use Rattle.command_semantics.specs.Places.{place_of, found, stack_at, volume_at, merging_at}
use Rattle.command_semantics.specs.Layers.{put}
use Rattle.command_semantics.specs.Messages.{snap_at}

-- sectors from the first on, of a device that has so many
abbrev pub fits : ℕ → ℕ → ℕ → Result (Unit {0}) Refusal
fits size first count = if nat_lt size (first + count) then Err OutOfRange else Ok tt

-- sectors of an array
abbrev pub cut : List ℕ → ℕ → ℕ → Result (List ℕ) Refusal
cut bytes first count = fits (length bytes / 512) first count >>= λ _. Ok (sectors_at bytes first count)

-- whether the device so deep in a stack of so many is a disk: the last, and no error layer
abbrev pub is_disk : ℕ → List (List ℕ) → Device → Bool
is_disk depth names device = (depth + 1 == length names) && has_disk device.layers

-- the raw bytes of the disk so deep in a stack
unfoldable pub raw_in : ℕ → List (List ℕ) → Device → Result (List ℕ) Refusal
raw_in depth names device = if is_disk depth names device then Ok (raw_of device.layers device.bytes) else Err BadTable

-- the names of the snapshot at a place
abbrev pub names_at : ℕ → Volume → Result Names Refusal
names_at k volume = there (slice_get volume.snaps k)
  where
    there : Option Names → Result Names Refusal
    there None = Err NoSuchDevice
    there (Some names) = Ok names

-- the raw bytes of the disk so deep in the store of snapshot k
unfoldable pub raw_in_store : ℕ → ℕ → Volume → Result (List ℕ) Refusal
raw_in_store k depth volume = do
  names ← names_at k volume
  snap ← snap_at k volume.state
  raw_in depth names.store snap.store

-- the raw bytes of the disk so deep in the store of the snapshot that is being merged
unfoldable pub raw_in_merging : ℕ → Volume → Result (List ℕ) Refusal
raw_in_merging depth volume = merging_at volume >>= λ g. raw_in depth g.names.store g.merge.store

-- the raw bytes of a disk of a volume; an origin and a snapshot are no disks
abbrev pub raw_under : Role → Volume → Result (List ℕ) Refusal
raw_under Origin volume = Err BadTable
raw_under (Under depth) volume = raw_in depth volume.under volume.state.origin
raw_under (Snapshot k) volume = Err BadTable
raw_under (Store k depth) volume = raw_in_store k depth volume
raw_under Merging volume = Err BadTable
raw_under (MergingStore depth) volume = raw_in_merging depth volume

-- the raw bytes of a disk, used or not
unfoldable pub raw_at : Place → Table → Result (List ℕ) Refusal
raw_at (Free i depth) table = stack_at i table >>= λ stacked. raw_in depth stacked.names stacked.device
raw_at (In v role) table = volume_at v table >>= raw_under role

-- `save DISK S N`: raw sectors of a disk
unfoldable pub save : List ℕ → ℕ → ℕ → Table → Result (List ℕ) Refusal
save name first count table = do
  count ← sectors_of count
  place ← found (place_of name table)
  raw ← raw_at place table
  cut raw first count

-- how many sectors some bytes are: whole ones, and 1 to 2048 of them
abbrev pub whole : List ℕ → Result ℕ Refusal
whole bytes = if length bytes % 512 == 0 then sectors_of (length bytes / 512) else Err BadTable

-- a bare disk with these bytes from a sector on; the first sector takes the mark away
abbrev pub patched : ℕ → List ℕ → Stacked → Stacked
patched first bytes stacked = record {
  names = stacked.names;
  device = record { bytes = with_sectors stacked.device.bytes first bytes; layers = stacked.device.layers };
  stale = if first == 0 then false else stacked.stale;
}

-- a disk that a layer stands on is not written
abbrev pub loaded_under : List Layer → ℕ → List ℕ → Stacked → Result Stacked Refusal
loaded_under [] first bytes stacked = Ok (patched first bytes stacked)
loaded_under (layer ∷ layers) first bytes stacked = Err Busy

-- raw sectors written to a disk of a stack that nothing uses, if they lie inside it
unfoldable pub loaded_free : ℕ → ℕ → ℕ → List ℕ → Stacked → Result Stacked Refusal
loaded_free depth first count bytes stacked = do
  raw ← raw_in depth stacked.names stacked.device
  _ ← fits (length raw / 512) first count
  loaded_under stacked.device.layers first bytes stacked

-- a disk of a volume isn't written, but its sectors are looked for first
unfoldable pub in_use : Role → ℕ → ℕ → Volume → Result Table Refusal
in_use role first count volume = do
  raw ← raw_under role volume
  _ ← fits (length raw / 512) first count
  Err Busy

unfoldable pub loaded_at : Place → ℕ → ℕ → List ℕ → Table → Result Table Refusal
loaded_at (Free i depth) first count bytes table = do
  stacked ← stack_at i table
  stacked ← loaded_free depth first count bytes stacked
  Ok (put i stacked table)
loaded_at (In v role) first count bytes table = volume_at v table >>= in_use role first count

-- `load DISK S DATA`: raw sectors of a disk that nothing uses
unfoldable pub load : List ℕ → ℕ → List ℕ → Table → Result Table Refusal
load name first bytes table = do
  count ← whole bytes
  place ← found (place_of name table)
  loaded_at place first count bytes table

-- `copy DISK S DISK N`: raw sectors of a disk, used or not, written to the same place of one that nothing uses
unfoldable pub copied : List ℕ → ℕ → List ℕ → ℕ → Table → Result Table Refusal
copied from first to count table = do
  bytes ← save from first count table
  load to first bytes table

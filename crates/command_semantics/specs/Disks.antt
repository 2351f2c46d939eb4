-- To be believed: `run`'s output, a volume's steps or its attach are said in these words.
-- Making a disk. The commands are this project's own.
use Rattle.std.specs.Prelude.{ℕ, ◌+◌, ◌*◌, ◌&&◌, not, Bool, false, List, [], ◌∷◌, ◌++◌, length, replicate, sum_by, nat_lt, nat_le, is_some, if◌then◌else◌, Option, Some, None, Result, Ok, Err}
use Rattle.sector.specs.declared.refusal.Refusal.{Refusal}
use Rattle.sector.specs.declared.refusal.Refusal.TheVariants.{Busy, OutOfRange, TooMany}
use Rattle.device.specs.Layers.{Broken}
use Rattle.whole_commands.specs.Devices.{Device}
use Rattle.command_semantics.specs.State.{Stacked, Names, Volume, Table, names_in}
use Rattle.command_semantics.specs.Places.{place_of}

-- the devices of a stack
abbrev pub devices_of : Stacked → ℕ
devices_of stacked = length stacked.names

-- a snapshot and the devices of its store
abbrev pub devices_under : Names → ℕ
devices_under names = 1 + length names.store

-- the snapshot that is being merged and the devices of its store, if there is one
abbrev pub devices_merging : Option Names → ℕ
devices_merging None = 0
devices_merging (Some names) = devices_under names

-- the devices of a volume: the origin and those under it, and each snapshot with those under it
abbrev pub devices_in : Volume → ℕ
devices_in volume = 1 + length volume.under + sum_by devices_under volume.snaps + devices_merging (names_in volume.merging)

-- how many devices there are
abbrev pub device_count : Table → ℕ
device_count table = sum_by devices_of table.stacks + sum_by devices_in table.volumes

-- one more stack that nothing uses
abbrev pub with_stack : Stacked → Table → Table
with_stack stacked table = record { stacks = table.stacks ++ stacked ∷ []; volumes = table.volumes }

-- a device that stands on no other
abbrev pub alone : List ℕ → Device → Stacked
alone name device = record { names = name ∷ []; device = device; stale = false }

-- so many zero sectors
abbrev pub zeros : ℕ → List ℕ
zeros sectors = replicate (512 * sectors) 0

-- a new disk, and an error layer; an error layer's bytes are never shown
abbrev pub blank : ℕ → Device
blank sectors = record { bytes = zeros sectors; layers = [] }

abbrev pub failing : ℕ → Device
failing sectors = record { bytes = zeros sectors; layers = Broken ∷ [] }

-- a disk and an error layer have 1 to 2^24 sectors
abbrev pub is_size : ℕ → Bool
is_size sectors = nat_lt 0 sectors && nat_le sectors 16777216

-- `disk NAME N`: a disk of N zero sectors
unfoldable pub make : List ℕ → ℕ → Table → Result Table Refusal
make name sectors table =
    if is_some (place_of name table) then Err Busy else
    if not (is_size sectors) then Err OutOfRange else
    if nat_le 64 (device_count table) then Err TooMany else
    Ok (with_stack (alone name (blank sectors)) table)

-- To be believed: `run`'s output, a volume's steps or its attach are said in these words.
-- Table lines of devices that are there. The lines are those of the kernel's pages on dm-flakey and dm-dust; that a disk has
-- none is this project's own.
use Rattle.std.specs.Prelude.{ℕ, zero, suc, ◌+◌, List, ◌∷◌, slice_get, Option, Some, None, Result, Ok, Err}
use Rattle.sector.specs.declared.refusal.Refusal.{Refusal}
use Rattle.sector.specs.declared.refusal.Refusal.TheVariants.{BadTable}
use Rattle.device.specs.Layers.{Layer, Flaky, Dusty, Broken, Features as Kinds}
use Rattle.words.specs.Given.{◌>>=◌}
use Rattle.table.specs.declared.lines.FlakeyFeatures.{FlakeyFeatures}
use Rattle.table.specs.declared.lines.Line.{Line}
use Rattle.table.specs.declared.lines.Target.{Target}
use Rattle.table.specs.declared.lines.Target.TheVariants as targets
use Rattle.table.specs.Printed.{text_of}
use Rattle.whole_commands.specs.Devices.{Device, sectors_of}
use Rattle.command_semantics.specs.declared.place.Role.{Role}
use Rattle.command_semantics.specs.declared.place.Role.TheVariants.{Origin, Under, Snapshot, Store, Merging, MergingStore}
use Rattle.command_semantics.specs.declared.place.Place.{Place}
use Rattle.command_semantics.specs.declared.place.Place.TheVariants.{Free, In}
use Rattle.command_semantics.specs.State.{Merging as Begun, Volume, Table}
use Rattle.command_semantics.specs.Places.{place_of, found, stack_at, volume_at, merging_at}
use Rattle.command_semantics.specs.Removing.{lowered_device}
use Rattle.command_semantics.specs.Raw.{names_at}
use Rattle.command_semantics.specs.Messages.{snap_at}

-- the features of a line
abbrev pub words_of : Kinds → FlakeyFeatures
words_of f = record { error_reads = f.error_reads; error_writes = f.error_writes; drop_writes = f.drop_writes }

-- a name that is there
abbrev pub named : Option (List ℕ) → Result (List ℕ) Refusal
named None = Err BadTable
named (Some name) = Ok name

-- a target over the device of a name
abbrev pub over : Option (List ℕ) → (List ℕ → Target) → Result Target Refusal
over below target = named below >>= λ name. Ok (target name)

-- what the top of these layers does, over the device of a name; a disk has no line
abbrev pub target_of : List Layer → Option (List ℕ) → Result Target Refusal
target_of (Flaky moment up down features offset ∷ layers) below = over below (λ name. targets.Flakey name offset up down (words_of features))
target_of (Dusty sectors size enabled bad ∷ layers) below = over below (λ name. targets.Dust name size)
target_of (Broken ∷ layers) below = Ok targets.Error
target_of layers below = Err BadTable

-- the line of the top of a device, over the device of a name
abbrev pub line_of : Device → Option (List ℕ) → Result Line Refusal
line_of device below = target_of device.layers below >>= λ target. Ok (record { sectors = sectors_of device; target = target })

-- a device without so many of its top layers
abbrev pub device_at : ℕ → Option Device → Option Device
device_at depth None = None
device_at zero (Some device) = Some device
device_at (suc depth) (Some device) = device_at depth (lowered_device device)

-- the line of a device that is there
abbrev pub line_if : Option Device → Option (List ℕ) → Result Line Refusal
line_if None below = Err BadTable
line_if (Some device) below = line_of device below

-- the line of the device so deep in a stack with these names
unfoldable pub line_in : ℕ → List (List ℕ) → Device → Result Line Refusal
line_in depth names device = line_if (device_at depth (Some device)) (slice_get names (depth + 1))

-- the line of the device so deep in the store of snapshot k
unfoldable pub line_in_store : ℕ → ℕ → Volume → Result Line Refusal
line_in_store k depth volume = do
  names ← names_at k volume
  snap ← snap_at k volume.state
  line_in depth names.store snap.store

-- the line of the device so deep in the store of the snapshot that is being merged
unfoldable pub line_in_merging : ℕ → Volume → Result Line Refusal
line_in_merging depth volume = merging_at volume >>= λ g. line_in depth g.names.store g.merge.store

-- what an origin is over the top of its stack, and with a merge, over the top of the merging store
unfoldable pub origin_target : Option Begun → Volume → Result Target Refusal
origin_target None volume = over (slice_get volume.under 0) targets.Origin
origin_target (Some g) volume = do
  device ← named (slice_get volume.under 0)
  store ← named (slice_get g.names.store 0)
  Ok (targets.Merge device store g.merge.chunk g.names.overflow)

-- the line of an origin
unfoldable pub origin_line : Volume → Result Line Refusal
origin_line volume = do
  target ← origin_target volume.merging volume
  Ok (record { sectors = sectors_of volume.state.origin; target = target })

-- the line of a snapshot, of the top of the stack under the origin, over the top of its store
unfoldable pub snapshot_line : ℕ → Volume → Result Line Refusal
snapshot_line k volume = do
  names ← names_at k volume
  snap ← snap_at k volume.state
  device ← named (slice_get volume.under 0)
  store ← named (slice_get names.store 0)
  Ok (record { sectors = sectors_of volume.state.origin; target = targets.Snapshot device store snap.chunk names.overflow })

-- the line of the snapshot that is being merged: that of any other
unfoldable pub merging_line : Volume → Result Line Refusal
merging_line volume = do
  g ← merging_at volume
  device ← named (slice_get volume.under 0)
  store ← named (slice_get g.names.store 0)
  Ok (record { sectors = sectors_of volume.state.origin; target = targets.Snapshot device store g.merge.chunk g.names.overflow })

abbrev pub line_of_role : Role → Volume → Result Line Refusal
line_of_role Origin volume = origin_line volume
line_of_role (Under depth) volume = line_in depth volume.under volume.state.origin
line_of_role (Snapshot k) volume = snapshot_line k volume
line_of_role (Store k depth) volume = line_in_store k depth volume
line_of_role Merging volume = merging_line volume
line_of_role (MergingStore depth) volume = line_in_merging depth volume

-- the line of the device at a place
unfoldable pub line_at : Place → Table → Result Line Refusal
line_at (Free i depth) table = stack_at i table >>= λ stacked. line_in depth stacked.names stacked.device
line_at (In v role) table = volume_at v table >>= line_of_role role

-- `table DEV`: the line of a device as it is printed
unfoldable pub line_text : List ℕ → Table → Result (List ℕ) Refusal
line_text name table = do
  place ← found (place_of name table)
  line ← line_at place table
  Ok (text_of line)

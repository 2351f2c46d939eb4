-- To be believed: `run`'s output, a volume's steps or its attach are said in these words.
-- Making layers. The targets are those of the kernel's pages on dm-flakey and dm-dust; the order of the refusals is this
-- project's own.
use Rattle.std.specs.Prelude.{◌==◌, ℕ, ◌+◌, false, List, [], ◌∷◌, slice_set, nat_le, if◌then◌else◌, Result, Ok, Err}
use Rattle.sector.specs.Bytes.{sectors_at}
use Rattle.sector.specs.declared.refusal.Refusal.{Refusal}
use Rattle.sector.specs.declared.refusal.Refusal.TheVariants.{Busy, BadTable}
use Rattle.device.specs.Layers.{Layer, Flaky, Dusty, Window, Features}
use Rattle.layers.specs.Windows.{beside}
use Rattle.words.specs.Given.{◌>>=◌}
use Rattle.table.specs.declared.lines.FlakeyFeatures.{FlakeyFeatures as Words}
use Rattle.whole_commands.specs.Devices.{Device, sectors_of}
use Rattle.command_semantics.specs.declared.place.Role.{Role}
use Rattle.command_semantics.specs.declared.place.Role.TheVariants.{Origin, Under, Snapshot, Store, Merging, MergingStore}
use Rattle.command_semantics.specs.declared.place.Place.{Place}
use Rattle.command_semantics.specs.declared.place.Place.TheVariants.{Free, In}
use Rattle.command_semantics.specs.State.{Stacked, Table}
use Rattle.command_semantics.specs.Places.{place_of, found, stack_at}
use Rattle.command_semantics.specs.Disks.{with_stack, alone, failing, is_size}

-- why nothing can be put on a device of a volume: an origin and a snapshot can't stand below, and what they stand on is in use
abbrev pub taken : Role → Refusal
taken Origin = BadTable
taken (Under depth) = Busy
taken (Snapshot k) = BadTable
taken (Store k depth) = Busy
taken Merging = BadTable
taken (MergingStore depth) = Busy

-- a device of a stack that nothing uses, unless another stands on it
abbrev pub top_of : ℕ → ℕ → Result ℕ Refusal
top_of i depth = if depth == 0 then Ok i else Err Busy

-- the stack that a device is the top of
abbrev pub unused : Place → Result ℕ Refusal
unused (Free i depth) = top_of i depth
unused (In v role) = Err (taken role)

-- the stack that nothing uses and that the device of a name is the top of
unfoldable pub top : List ℕ → Table → Result ℕ Refusal
top name table = found (place_of name table) >>= unused

-- a device under a layer that shows so many of its sectors from one on
abbrev pub under : Layer → ℕ → ℕ → Device → Device
under layer first count device = record { bytes = sectors_at device.bytes first count; layers = layer ∷ Window (beside device.bytes first count) ∷ device.layers }

abbrev pub covered : List ℕ → Layer → ℕ → ℕ → Stacked → Stacked
covered name layer first count stacked =
    record { names = name ∷ stacked.names; device = under layer first count stacked.device; stale = stacked.stale }

-- a layer of so many sectors from one on of the device below, which must have them
abbrev pub layered : List ℕ → Layer → ℕ → ℕ → Stacked → Result Stacked Refusal
layered name layer first count stacked =
    if nat_le (first + count) (sectors_of stacked.device) then Ok (covered name layer first count stacked) else Err BadTable

-- another stack at a place
abbrev pub put : ℕ → Stacked → Table → Table
put i stacked table = record { stacks = slice_set table.stacks i stacked; volumes = table.volumes }

-- a layer over the device of a name
unfoldable pub laid : List ℕ → Layer → ℕ → ℕ → List ℕ → Table → Result Table Refusal
laid name layer first count below table = do
  i ← top below table
  stacked ← stack_at i table
  stacked ← layered name layer first count stacked
  Ok (put i stacked table)

-- a flakey layer's features
abbrev pub features_of : Words → Features
features_of f = record { drop_writes = f.drop_writes; error_writes = f.error_writes; error_reads = f.error_reads }

-- an error layer
abbrev pub broken : List ℕ → ℕ → Table → Result Table Refusal
broken name sectors table =
    if is_size sectors then Ok (with_stack (alone name (failing sectors)) table) else Err BadTable

-- A flakey layer begins at the first of its seconds, a dust layer in bypass with an empty list.
abbrev pub flakey_over : List ℕ → ℕ → List ℕ → ℕ → ℕ → ℕ → Words → Table → Result Table Refusal
flakey_over name sectors device offset up down features table = laid name (Flaky 0 up down (features_of features) offset) offset sectors device table

abbrev pub dust_over : List ℕ → ℕ → List ℕ → ℕ → Table → Result Table Refusal
dust_over name sectors device block table = laid name (Dusty sectors block false []) 0 sectors device table

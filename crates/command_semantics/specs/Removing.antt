-- To be believed: `run`'s output, a volume's steps or its attach are said in these words.
-- Taking devices away. The order of the refusals is this project's own.
use Rattle.std.specs.Prelude.{ℕ, List, drop, Option, Some, None, Result, Ok, Err}
use Rattle.std.specs.List.{remove}
use Rattle.sector.specs.declared.refusal.Refusal.{Refusal}
use Rattle.sector.specs.declared.refusal.Refusal.TheVariants.{Busy, MergeInProgress}
use Rattle.device.specs.Layers.{Layer}
use Rattle.layers.specs.Windows.{layers_below, bytes_below}
use Rattle.words.specs.Given.{◌>>=◌}
use Rattle.whole_commands.specs.Devices.{Device}
use Rattle.command_semantics.specs.declared.place.Role.TheVariants.{Origin, Under, Snapshot, Store, Merging, MergingStore}
use Rattle.command_semantics.specs.declared.place.Place.{Place}
use Rattle.command_semantics.specs.declared.place.Place.TheVariants.{Free, In}
use Rattle.command_semantics.specs.State.{Stacked, Table}
use Rattle.command_semantics.specs.Places.{place_of, found, stack_at}
use Rattle.command_semantics.specs.Layers.{top_of, put}
use Rattle.command_semantics.specs.Origins.{closed}
use Rattle.command_semantics.specs.Snapshots.{left_by}

-- a device with these layers and bytes, if there are layers
abbrev pub left_with : List ℕ → Option (List Layer) → Option Device
left_with bytes None = None
left_with bytes (Some layers) = Some (record { bytes = bytes; layers = layers })

-- what is left of a device whose top layer is taken away: nothing of a disk and of an error layer
unfoldable pub lowered_device : Device → Option Device
lowered_device device = left_with (bytes_below device.layers device.bytes) (layers_below device.layers)

-- a stack of which this is left
abbrev pub left_as : Stacked → Option Device → Option Stacked
left_as stacked None = None
left_as stacked (Some device) = Some (record { names = drop 1 stacked.names; device = device; stale = stacked.stale })

-- what is left of a stack whose top goes
unfoldable pub lowered_to : Stacked → Option Stacked
lowered_to stacked = left_as stacked (lowered_device stacked.device)

-- what is left of stack i stands in its place
abbrev pub with_left : ℕ → Option Stacked → Table → Table
with_left i None table = record { stacks = remove table.stacks i; volumes = table.volumes }
with_left i (Some stacked) table = put i stacked table

-- the top of stack i goes
unfoldable pub lowered : ℕ → Table → Result Table Refusal
lowered i table = stack_at i table >>= λ stacked. Ok (with_left i (lowered_to stacked) table)

-- a device goes, unless another uses it, or it is a snapshot that is being merged
abbrev pub removed_at : Place → Table → Result Table Refusal
removed_at (Free i depth) table = top_of i depth >>= λ i. lowered i table
removed_at (In v Origin) table = closed v table
removed_at (In v (Under depth)) table = Err Busy
removed_at (In v (Snapshot k)) table = left_by v k table
removed_at (In v (Store k depth)) table = Err Busy
removed_at (In v Merging) table = Err MergeInProgress
removed_at (In v (MergingStore depth)) table = Err Busy

-- `remove NAME`
unfoldable pub take_away : List ℕ → Table → Result Table Refusal
take_away name table = do
  place ← found (place_of name table)
  removed_at place table

-- What a trace says of the layers of all devices that may fail, in the order of `ls`.
use Rattle.std.specs.Prelude.{ℕ, ◌+◌, List, [], ◌∷◌, ◌++◌, Option, Some, None, Result, Ok, Err}
use Rattle.std.specs.List.{flat_map}
use Rattle.sector.specs.declared.refusal.Refusal.{Refusal}
use Rattle.whole_commands.specs.Snaps.{Snap}
use Rattle.command_semantics.specs.State.{Stacked, Names, Merging as Begun, Volume, Table}
use Rattle.command_semantics.specs.Messages.{snap_at}
use Rattle.volume_trace.specs.Layers.{layers_text}

-- those of the store of a snapshot that is there
abbrev pub store_layers : Names → Result Snap Refusal → List ℕ
store_layers names (Ok snap) = layers_text snap.store.layers names.store
store_layers names (Err refusal) = []

-- those of snapshot k's store
unfoldable pub snapshot_layers : ℕ → Names → Volume → List ℕ
snapshot_layers k names volume = store_layers names (snap_at k volume.state)

-- those of the stores of the snapshots from a place on, which have these names
abbrev pub stores_from : ℕ → List Names → Volume → List ℕ
stores_from k [] volume = []
stores_from k (names ∷ snaps) volume = snapshot_layers k names volume ++ stores_from (k + 1) snaps volume

-- those of the store of the snapshot that is being merged, if there is one
unfoldable pub merging_layers : Option Begun → List ℕ
merging_layers None = []
merging_layers (Some g) = layers_text g.merge.store.layers g.names.store

-- those that an origin stands on, and those of the stores
unfoldable pub volume_layers : Volume → List ℕ
volume_layers volume = layers_text volume.state.origin.layers volume.under ++ stores_from 0 volume.snaps volume ++ merging_layers volume.merging

abbrev pub free_layers : Stacked → List ℕ
free_layers stacked = layers_text stacked.device.layers stacked.names

-- those of the stacks that nothing uses, and then those of the volumes
unfoldable pub layers_in : Table → List ℕ
layers_in table = flat_map free_layers table.stacks ++ flat_map volume_layers table.volumes

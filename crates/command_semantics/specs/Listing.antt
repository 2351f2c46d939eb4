-- To be believed: `run`'s output, a volume's steps or its attach are said in these words.
-- What `ls` tells: all devices, each with its table line, which says what it is and what it stands on. A disk has none. The form is
-- this project's own; the lines are those of `table`.
use Rattle.std.specs.Prelude.{ℕ, ◌+◌, List, [], ◌∷◌, ◌++◌, codes, Option, Some, None, Result, Ok, Err}
use Rattle.std.specs.List.{flat_map}
use Rattle.sector.specs.declared.refusal.Refusal.{Refusal}
use Rattle.table.specs.declared.lines.Line.{Line}
use Rattle.table.specs.Printed.{text_of}
use Rattle.whole_commands.specs.Devices.{Device}
use Rattle.whole_commands.specs.Snaps.{Snap}
use Rattle.command_semantics.specs.State.{Stacked, Names, Merging as Begun, Volume, Table}
use Rattle.command_semantics.specs.Messages.{snap_at}
use Rattle.command_semantics.specs.Lines.{line_in, merging_line, origin_line, snapshot_line}

-- the line of a device, or that it is a disk
abbrev pub kind_text : Result Line Refusal → List ℕ
kind_text (Ok line) = text_of line
kind_text (Err refusal) = codes "disk"

-- a device, by its name and its line
abbrev pub device_item : List ℕ → Result Line Refusal → List ℕ
device_item name line = codes "; " ++ name ++ codes " " ++ kind_text line

-- the devices of a stack, from so deep on: these names of its names
abbrev pub items_from : ℕ → List (List ℕ) → List (List ℕ) → Device → List ℕ
items_from depth [] names device = []
items_from depth (name ∷ below) names device = device_item name (line_in depth names device) ++ items_from (depth + 1) below names device

-- all of them, from the top
abbrev pub stack_items : List (List ℕ) → Device → List ℕ
stack_items names device = items_from 0 names names device

-- those of the store of a snapshot that is there
abbrev pub store_items : Names → Result Snap Refusal → List ℕ
store_items names (Ok snap) = stack_items names.store snap.store
store_items names (Err refusal) = []

-- snapshot k and its store
unfoldable pub snapshot_items : ℕ → Names → Volume → List ℕ
snapshot_items k names volume = device_item names.snapshot (snapshot_line k volume) ++ store_items names (snap_at k volume.state)

-- the snapshots from a place on, which have these names
abbrev pub snapshots_from : ℕ → List Names → Volume → List ℕ
snapshots_from k [] volume = []
snapshots_from k (names ∷ snaps) volume = snapshot_items k names volume ++ snapshots_from (k + 1) snaps volume

-- the snapshot that is being merged and its store, if there is one
unfoldable pub merging_items : Option Begun → Volume → List ℕ
merging_items None volume = []
merging_items (Some g) volume = device_item g.names.snapshot (merging_line volume) ++ stack_items g.names.store g.merge.store

-- an origin, what it stands on, and its snapshots with their stores
unfoldable pub volume_items : Volume → List ℕ
volume_items volume =
    device_item volume.origin (origin_line volume) ++ stack_items volume.under volume.state.origin
    ++ snapshots_from 0 volume.snaps volume ++ merging_items volume.merging volume

abbrev pub free_items : Stacked → List ℕ
free_items stacked = stack_items stacked.names stacked.device

-- `ls`: the stacks that nothing uses, and then the volumes
unfoldable pub listed : Table → List ℕ
listed table = codes "devices" ++ flat_map free_items table.stacks ++ flat_map volume_items table.volumes

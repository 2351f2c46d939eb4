-- To be believed: `run`'s output, a volume's steps or its attach are said in these words.
-- A volume is stopped: it ends with its snapshots without a further event, whatever is in flight, and nothing uses its devices
-- any more. Their bytes and layers stay; what was in flight is forgotten. The command is this project's own.
use Rattle.std.specs.Prelude.{ℕ, nat_lt, List, [], ◌∷◌, ◌++◌, false, Option, Some, None, if◌then◌else◌, Result, Ok}
use Rattle.std.specs.List.{remove}
use Rattle.sector.specs.declared.refusal.Refusal.{Refusal}
use Rattle.words.specs.Given.{◌>>=◌}
use Rattle.whole_commands.specs.Devices.{Device}
use Rattle.whole_commands.specs.Snaps.{Snap}
use Rattle.command_semantics.specs.State.{Stacked, Names, Merging, Volume, Table}
use Rattle.command_semantics.specs.Places.{volume_at}
use Rattle.command_semantics.specs.Events.{origin_by}

-- a stack that a stopped volume leaves: nothing uses it, its layers stay, and a mark is forgotten
abbrev pub freed : List (List ℕ) → Device → Stacked
freed names device = record { names = names; device = device; stale = false }

abbrev pub store_freed : Names → Snap → Stacked
store_freed names snap = freed names.store snap.store

abbrev pub merging_freed : Merging → Stacked
merging_freed g = freed g.names.store g.merge.store

-- the stores of the snapshots, in order of attaching
abbrev pub snap_stores : List Names → List Snap → List Stacked
snap_stores [] snaps = []
snap_stores (n ∷ names) [] = []
snap_stores (n ∷ names) (s ∷ snaps) = store_freed n s ∷ snap_stores names snaps

-- the same with the store of the snapshot that is being merged, which stands where its number is
abbrev pub stores_among : List Names → List Snap → Merging → List Stacked
stores_among [] snaps g = merging_freed g ∷ []
stores_among (n ∷ names) [] g = merging_freed g ∷ []
stores_among (n ∷ names) (s ∷ snaps) g =
    if nat_lt g.merge.number s.number then merging_freed g ∷ snap_stores (n ∷ names) (s ∷ snaps)
    else store_freed n s ∷ stores_among names snaps g

abbrev pub stores_left : List Names → List Snap → Option Merging → List Stacked
stores_left names snaps None = snap_stores names snaps
stores_left names snaps (Some g) = stores_among names snaps g

-- the stacks of a volume that is stopped: the one under the origin, then those of the stores
abbrev pub stopped : Volume → List Stacked
stopped volume = freed volume.under volume.state.origin ∷ stores_left volume.snaps volume.state.snaps volume.merging

-- `stop VOL`
unfoldable pub volume_stopped : List ℕ → Table → Result Table Refusal
volume_stopped name table = do
  v ← origin_by name table
  volume ← volume_at v table
  Ok (record { stacks = table.stacks ++ stopped volume; volumes = remove table.volumes v })

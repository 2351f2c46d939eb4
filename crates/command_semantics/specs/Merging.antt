-- To be believed: `run`'s output, a volume's steps or its attach are said in these words.
-- A snapshot is merged into its origin: the merge begins, goes on after a fault, and is finished. No device is touched by these
-- commands; `settle` merges. The order of the refusals is this project's own.
use Rattle.std.specs.Prelude.{ℕ, List, [], ◌∷◌, ◌++◌, length, nat_lt, slice_set, is_some, false, if◌then◌else◌, Option, Some, None, Result, Ok, Err}
use Rattle.std.specs.List.{remove}
use Rattle.std.specs.Option.{option_map}
use Rattle.sector.specs.declared.refusal.Refusal.{Refusal}
use Rattle.sector.specs.declared.refusal.Refusal.TheVariants.{BadTable, Invalid, MergeInProgress, NotMerging, NotFinished}
use Rattle.words.specs.Given.{◌>>=◌}
use Rattle.whole_commands.specs.Snaps.{Snap}
use Rattle.whole_commands.specs.Attaching.{detached}
use Rattle.whole_commands.specs.Merges.{Merge, merge_of, pairs_in}
use Rattle.event_machine.specs.Merging.{resumed as moving_resumed}
use Rattle.command_semantics.specs.declared.place.Role.TheVariants.{Origin, Under, Snapshot, Store, Merging, MergingStore}
use Rattle.command_semantics.specs.declared.place.Place.{Place}
use Rattle.command_semantics.specs.declared.place.Place.TheVariants.{Free, In}
use Rattle.command_semantics.specs.State.{Stacked, Names, Merging as Begun, Volume, Table}
use Rattle.command_semantics.specs.Places.{place_of, found, volume_at}
use Rattle.command_semantics.specs.Messages.{snap_at, put_volume}
use Rattle.command_semantics.specs.Raw.{names_at}
use Rattle.command_semantics.specs.Origins.{still}
use Rattle.command_semantics.specs.Events.{origin_by}

-- one merge at a time is begun in a volume
abbrev pub unmerged : Volume → Result (Unit {0}) Refusal
unmerged volume = if is_some volume.merging then Err MergeInProgress else Ok tt

-- a spoiled snapshot is not merged
abbrev pub alive : Snap → Result (Unit {0}) Refusal
alive snap = if snap.live then Ok tt else Err Invalid

-- the merge of snapshot k begins: it is none of the snapshots any more
abbrev pub with_begun : ℕ → Names → Snap → Volume → Volume
with_begun k names snap volume = record volume {
  snaps = remove volume.snaps k;
  merging = Some (record { names = names; merge = merge_of snap });
  state = record { origin = volume.state.origin; snaps = detached snap.number volume.state.snaps };
}

-- the volume of snapshot k with the merge of that snapshot, or why it does not begin
unfoldable pub begun : ℕ → Volume → Result Volume Refusal
begun k volume = do
  _ ← unmerged volume
  names ← names_at k volume
  snap ← snap_at k volume.state
  _ ← alive snap
  _ ← still volume
  Ok (with_begun k names snap volume)

-- the merge of the snapshot at a place; one that is being merged already is told apart from devices of other kinds
unfoldable pub begun_at : Place → Table → Result Table Refusal
begun_at (Free i depth) table = Err BadTable
begun_at (In v Origin) table = Err BadTable
begun_at (In v (Under depth)) table = Err BadTable
begun_at (In v (Snapshot k)) table = do
  volume ← volume_at v table
  new ← begun k volume
  Ok (put_volume v new table)
begun_at (In v (Store k depth)) table = Err BadTable
begun_at (In v Merging) table = Err MergeInProgress
begun_at (In v (MergingStore depth)) table = Err BadTable

-- `merge SNAP`
unfoldable pub merge_begun : List ℕ → Table → Result Table Refusal
merge_begun name table = do
  place ← found (place_of name table)
  begun_at place table

-- a merge that is not failed
abbrev pub unfailed : Begun → Begun
unfailed g = record { names = g.names; merge = record g.merge { failed = false } }

-- A merge that failed may go on, whether the volume is quiet or not; one that did not fail goes on as it was.
abbrev pub resumed_by : Option Begun → Volume → Result Volume Refusal
resumed_by None volume = Err NotMerging
resumed_by (Some g) volume = Ok (record volume { merging = Some (unfailed g); flying = option_map moving_resumed volume.flying })

unfoldable pub resumed : Volume → Result Volume Refusal
resumed volume = resumed_by volume.merging volume

-- `resume VOL`
unfoldable pub merge_resumed : List ℕ → Table → Result Table Refusal
merge_resumed name table = do
  v ← origin_by name table
  volume ← volume_at v table
  new ← resumed volume
  Ok (put_volume v new table)

-- A merge is finished where its store has no pair left. While the volume is not quiet a group may be formed that has no pair
-- left in the store; a merge with a group is not finished either. These rules are said of quiet volumes, which have no group.
abbrev pub all_merged : Merge → Result (Unit {0}) Refusal
all_merged g = if nat_lt 0 (length (pairs_in g)) then Err NotFinished else Ok tt

-- the store of a merge that is finished, which nothing uses any more
abbrev pub store_left : Begun → Stacked
store_left g = record { names = g.names.store; device = g.merge.store; stale = false }

-- the store of the merge, and the volume without the merge
abbrev pub finished_by : Option Begun → Volume → Result (Stacked × Volume) Refusal
finished_by None volume = Err NotFinished
finished_by (Some g) volume = do
  _ ← all_merged g.merge
  _ ← still volume
  Ok (store_left g, record volume { merging = None })

unfoldable pub finished : Volume → Result (Stacked × Volume) Refusal
finished volume = finished_by volume.merging volume

-- `finish VOL`: the name of the snapshot goes too
unfoldable pub merge_finished : List ℕ → Table → Result Table Refusal
merge_finished name table = do
  v ← origin_by name table
  volume ← volume_at v table
  parts ← finished volume
  Ok (record { stacks = table.stacks ++ parts.0 ∷ []; volumes = slice_set table.volumes v parts.1 })

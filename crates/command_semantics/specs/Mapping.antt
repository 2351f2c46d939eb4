-- To be believed: `run`'s output, a volume's steps or its attach are said in these words.
-- What `map` tells: the pairs of a snapshot in runs, as they stand on its store. Which refusals come, in which order, is this
-- project's own.
use Rattle.std.specs.Prelude.{ℕ, Bool, List, ◌++◌, codes, None, Result, Ok, Err, if◌then◌else◌}
use Rattle.std.specs.Int.{div_ceil}
use Rattle.sector.specs.declared.pair.Pair.{Pair}
use Rattle.sector.specs.declared.refusal.Refusal.{Refusal}
use Rattle.sector.specs.declared.refusal.Refusal.TheVariants.{BadTable, Invalid, MergingSnapshot}
use Rattle.words.specs.Given.{◌>>=◌}
use Rattle.cow_format.specs.Pairs.{pairs_of}
use Rattle.cow_format.specs.Picture.{place_of as place_in}
use Rattle.table.specs.Runs.{pairs_from, runs_after}
use Rattle.whole_commands.specs.Devices.{sectors_of}
use Rattle.command_semantics.specs.declared.place.Role.{Role}
use Rattle.command_semantics.specs.declared.place.Role.TheVariants.{Origin, Under, Snapshot, Store, Merging, MergingStore}
use Rattle.command_semantics.specs.declared.place.Place.{Place}
use Rattle.command_semantics.specs.declared.place.Place.TheVariants.{Free, In}
use Rattle.command_semantics.specs.State.{Volume, Table}
use Rattle.command_semantics.specs.Places.{place_of, found, volume_at}
use Rattle.command_semantics.specs.Messages.{snap_at}

-- how many chunks of so many sectors an origin has, the last of which may be short
abbrev pub chunks_in : ℕ → ℕ → ℕ
chunks_in chunk sectors = div_ceil sectors chunk

-- the pairs of a snapshot of an origin of so many sectors: in the order of the origin's chunks, in runs
unfoldable pub pairs_text : ℕ → ℕ → List Pair → List ℕ
pairs_text sectors chunk pairs = codes "pairs" ++ runs_after None (pairs_from (place_in pairs) 0 (chunks_in chunk sectors))

-- one that is spoiled has none
abbrev pub snapshot_map : ℕ → Bool → ℕ → List Pair → Result (List ℕ) Refusal
snapshot_map sectors live chunk pairs = if live then Ok (pairs_text sectors chunk pairs) else Err Invalid

-- snapshot k, by the bytes of its store
unfoldable pub map_at_place : ℕ → Volume → Result (List ℕ) Refusal
map_at_place k volume = do
  snap ← snap_at k volume.state
  snapshot_map (sectors_of volume.state.origin) snap.live snap.chunk (pairs_of snap.chunk snap.store.bytes)

-- a device of a volume: no other has pairs, and those of a snapshot that is being merged go away
abbrev pub map_in : Role → Volume → Result (List ℕ) Refusal
map_in (Snapshot k) volume = map_at_place k volume
map_in Origin volume = Err BadTable
map_in (Under depth) volume = Err BadTable
map_in (Store k depth) volume = Err BadTable
map_in Merging volume = Err MergingSnapshot
map_in (MergingStore depth) volume = Err BadTable

unfoldable pub map_at : Place → Table → Result (List ℕ) Refusal
map_at (Free i depth) table = Err BadTable
map_at (In v role) table = volume_at v table >>= map_in role

-- `map SNAP`
unfoldable pub map_text : List ℕ → Table → Result (List ℕ) Refusal
map_text name table = do
  place ← found (place_of name table)
  map_at place table

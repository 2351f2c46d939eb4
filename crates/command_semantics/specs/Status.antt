-- To be believed: `run`'s output, a volume's steps or its attach are said in these words.
-- Which device has which status line. The lines are those of the kernel's admin-guide page on snapshots; that the numbers
-- are those of the store's next place and areas is this project's own.
use Rattle.std.specs.Prelude.{ℕ, ◌+◌, ◌*◌, ◌/◌, List, length, Option, Some, None, Result, Ok, Err, if◌then◌else◌}
use Rattle.sector.specs.declared.refusal.Refusal.{Refusal}
use Rattle.sector.specs.declared.refusal.Refusal.TheVariants.{BadTable}
use Rattle.words.specs.Given.{◌>>=◌}
use Rattle.cow_format.specs.Pairs.{pairs_of}
use Rattle.plain_machine.specs.Plain.{did_overflow}
use Rattle.table.specs.declared.status.StatusState.{StatusState}
use Rattle.table.specs.declared.status.StatusState.TheVariants.{Invalid, Failed, Overflow, Used}
use Rattle.table.specs.Lines.{origin_text, snapshot_text, merge_text}
use Rattle.whole_commands.specs.Saves.{next_of}
use Rattle.whole_commands.specs.Devices.{Device, sectors_of}
use Rattle.whole_commands.specs.Snaps.{Snap}
use Rattle.whole_commands.specs.Merges.{Merge}
use Rattle.command_semantics.specs.declared.place.Role.{Role}
use Rattle.command_semantics.specs.declared.place.Role.TheVariants.{Origin, Under, Snapshot, Store, Merging, MergingStore}
use Rattle.command_semantics.specs.declared.place.Place.{Place}
use Rattle.command_semantics.specs.declared.place.Place.TheVariants.{Free, In}
use Rattle.command_semantics.specs.State.{Merging as Begun, Volume, Table}
use Rattle.command_semantics.specs.Places.{place_of, found, volume_at}
use Rattle.command_semantics.specs.Messages.{snap_at}

-- What is used of a store: all up to the next place, and the header and the areas, which hold no copies.
abbrev pub used_of : ℕ → Device → StatusState
used_of chunk store =
    Used (chunk * next_of chunk (pairs_of chunk store.bytes)) (sectors_of store) (chunk * (length (pairs_of chunk store.bytes) / (32 * chunk) + 2))

-- what a status line says of a live snapshot
abbrev pub live_state : Snap → StatusState
live_state snap = if did_overflow snap.overflow then Overflow else used_of snap.chunk snap.store

-- What a status line says of a snapshot. One that is spoiled is Invalid, also where its store overflowed before.
abbrev pub state_of : Snap → StatusState
state_of snap = if snap.live then live_state snap else Invalid

-- the state of snapshot k
unfoldable pub state_at : ℕ → Volume → Result StatusState Refusal
state_at k volume = snap_at k volume.state >>= λ snap. Ok (state_of snap)

-- What a status line says of a merge: that it failed, or what is used of its store, all up to the place that it counts up to.
-- The header and the areas up to the one that pairs are taken from hold no copies.
abbrev pub merge_state : Merge → StatusState
merge_state g = if g.failed then Failed else Used (g.next * g.chunk) (sectors_of g.store) ((g.current + 2) * g.chunk)

-- the status line of an origin of so many sectors
abbrev pub origin_status : Option Begun → ℕ → List ℕ
origin_status None sectors = origin_text sectors
origin_status (Some g) sectors = merge_text sectors (merge_state g.merge)

-- The status line of a device of a volume. A snapshot has as many sectors as its origin; one that is being merged can be used
-- no more.
unfoldable pub status_in : Role → Volume → Result (List ℕ) Refusal
status_in Origin volume = Ok (origin_status volume.merging (sectors_of volume.state.origin))
status_in (Under depth) volume = Err BadTable
status_in (Snapshot k) volume = state_at k volume >>= λ state. Ok (snapshot_text (sectors_of volume.state.origin) state)
status_in (Store k depth) volume = Err BadTable
status_in Merging volume = Ok (snapshot_text (sectors_of volume.state.origin) Invalid)
status_in (MergingStore depth) volume = Err BadTable

-- disks and layers have none
unfoldable pub status_at : Place → Table → Result (List ℕ) Refusal
status_at (Free i depth) table = Err BadTable
status_at (In v role) table = volume_at v table >>= status_in role

-- `status DEV`
unfoldable pub status_text : List ℕ → Table → Result (List ℕ) Refusal
status_text name table = do
  place ← found (place_of name table)
  status_at place table

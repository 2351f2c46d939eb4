-- What commands do to the volume that they are asked of, whatever is in flight in it: that of its volume of events.
use Rattle.std.specs.Global.{Vec}
use Rattle.std.specs.Prelude.{◌≡◌, ◌≢◌, ℕ, Bool, true, false, List, [], Option, Some, None, Result, Ok, Err, slice_index_or}
use Rattle.sector.specs.declared.refusal.Refusal.{Refusal}
use Rattle.sector.specs.declared.refusal.Refusal.TheVariants.{Invalid, Overflow}
use Rattle.command.specs.declared.events.EventWords.{EventWords}
use Rattle.plain_machine.specs.declared.event.Event.{Event as Step}
use Rattle.plain_machine.specs.declared.event.Outcome.{Outcome}
use Rattle.plain_machine.specs.declared.request.Op.{Op}
use Rattle.plain_machine.specs.declared.request.Replied.{Replied}
use Rattle.plain_machine.specs.declared.request.Overflowing.TheVariants.{Never}
use Rattle.whole_commands.specs.Snaps.{Snap}
use Rattle.command_semantics.specs.declared.place.Role.TheVariants.{Origin, Under, Snapshot, Store, Merging, MergingStore}
use Rattle.command_semantics.specs.declared.place.Place.{Place}
use Rattle.command_semantics.specs.declared.place.Place.TheVariants.{Free, In}
use Rattle.command_semantics.specs.State.{Volume, Table}
use Rattle.command_semantics.specs.Places.{place_of, found, volume_at}
use Rattle.command_semantics.specs.Events.{is_merge_event, numbered, snapshot_named}
use Rattle.command_semantics.specs.Sectors.{Asked, IsAtRole}
use Rattle.device_list.specs.Flights.{IsFlushServed, IsFlushedAtRest, IsNotDue, IsNotStarted, IsReadAtRest, IsReadServed, IsStarted, IsStepped, IsWriteServed, IsWrittenAtRest}
use Rattle.device_list.specs.Tables.{StaysSound, table_of}
use Rattle.device_list.specs.declared.held.Devices.{Devices}
use Rattle.device_commands.specs.Ruled.{is_quiet_in}

-- the number of the snapshot at a place of a volume
abbrev pub number_in : ℕ → Result Volume Refusal → ℕ
number_in k (Err refusal) = 0
number_in k (Ok volume) = (slice_index_or volume.state.snaps k none).number
  where
    none : Snap
    none = record { number = 0; chunk = 0; live = false; stale = false; overflow = Never; store = record { bytes = []; layers = [] } }

-- and of the device at a place, if it is a snapshot
abbrev pub number_at : Table → Result Place Refusal → ℕ
number_at table (Err refusal) = 0
number_at table (Ok (Free i depth)) = 0
number_at table (Ok (In v Origin)) = 0
number_at table (Ok (In v (Under depth))) = 0
number_at table (Ok (In v (Snapshot k))) = number_in k (volume_at v table)
number_at table (Ok (In v (Store k depth))) = 0
number_at table (Ok (In v Merging)) = 0
number_at table (Ok (In v (MergingStore depth))) = 0

-- the number of the snapshot that an event is about, if it is about one
abbrev pub number_about : Option (List ℕ) → Table → ℕ
number_about None table = 0
number_about (Some snapshot) table = number_at table (found (place_of snapshot table))

-- whether the device at a place is a snapshot that is being merged
abbrev pub is_merging_at : Result Place Refusal → Bool
is_merging_at (Err refusal) = false
is_merging_at (Ok (Free i depth)) = false
is_merging_at (Ok (In v Origin)) = false
is_merging_at (Ok (In v (Under depth))) = false
is_merging_at (Ok (In v (Snapshot k))) = false
is_merging_at (Ok (In v (Store k depth))) = false
is_merging_at (Ok (In v Merging)) = true
is_merging_at (Ok (In v (MergingStore depth))) = false

-- whether an event is about such a snapshot: none of these is due
abbrev pub is_about_merging : Option (List ℕ) → Table → Bool
is_about_merging None table = false
is_about_merging (Some snapshot) table = is_merging_at (found (place_of snapshot table))

-- an event as its volume knows it
abbrev pub event_of : EventWords → Table → Step
event_of event table = numbered event (number_about (snapshot_named event) table)

-- an event is not due in a volume
abbrev pub IsNotDueIn : Step → Result Volume Refusal → Type 0
IsNotDueIn event (Err refusal) = Unit {0}
IsNotDueIn event (Ok volume) = IsNotDue event volume

-- what was read of a volume, written, or flushed, whichever device drops writes: with something in flight, and what was done of that
-- before; and with nothing
abbrev pub IsReadAmong : Result (List ℕ) Refusal → List Replied → List Replied → Asked → Volume → Volume → Type 0
IsReadAmong result before after asks old new = (old.quiet ≡ false → IsReadServed result before after old new asks) × (old.quiet ≡ true → IsReadAtRest result old new asks)

abbrev pub IsWrittenAmong : List ℕ → Result (Unit {0}) Refusal → List Replied → List Replied → Asked → Volume → Volume → Type 0
IsWrittenAmong bytes result before after asks old new = (old.quiet ≡ false → IsWriteServed bytes result before after old new asks) × (old.quiet ≡ true → IsWrittenAtRest bytes result old new asks)

abbrev pub IsFlushedAmong : Result (Unit {0}) Refusal → List Replied → List Replied → Asked → Volume → Volume → Type 0
IsFlushedAmong result before after asks old new = (old.quiet ≡ false → IsFlushServed result before after old new asks) × (old.quiet ≡ true → IsFlushedAtRest result old new asks)

abbrev pub IsStartedAs : Op → ℕ → Asked → Volume → Volume → Type 0
IsStartedAs op number asks old new = IsStarted op number old new asks

-- Or it was not, for this reason: no device is changed, and nothing more is in flight, but where a snapshot is lost, or overflows,
-- by it.
pub record IsNotStartedAs (op : Op) (refusal : Refusal) (asks : Asked) (old new : Volume) : Type 0 where
  pub cause : IsNotStarted op refusal old new asks
  pub same : refusal ≢ Invalid → refusal ≢ Overflow → new.state ≡ old.state
  pub still : refusal ≢ Invalid → new.quiet ≡ old.quiet

-- this was done to the volume that has the device of a name
abbrev pub IsDoneFor : List ℕ → (Volume → Volume → Type 0) → Table → Table → Type 0
IsDoneFor name holds old new = IsAtRole (λ role. holds) old new (found (place_of name old))

-- an event was done in that volume, with this outcome
abbrev pub IsEventDoneFor : List ℕ → Step → Outcome → Table → Table → Type 0
IsEventDoneFor name event outcome old new = IsDoneFor name (IsStepped event outcome) old new

-- Where nothing is in flight in the volume at a place, no reply is told of a request that was.
abbrev pub TellsNoneAt : ℕ → Devices → Vec Replied → Vec Replied → Type 0
TellsNoneAt v held before after = is_quiet_in (volume_at v (table_of held)) ≡ true → after.items ≡ before.items

-- where an event is none of a merge, what was sound stays so
abbrev pub StaysSoundBy : EventWords → Devices → Devices → Type 0
StaysSoundBy event old new = is_merge_event event ≡ false → StaysSound old new

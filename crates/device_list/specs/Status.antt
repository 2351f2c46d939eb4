-- What a status line says of a volume in which something is in flight, by what is in memory of its snapshots. The numbers are
-- those of the kernel's status lines; that the areas are counted by the pairs that are committed is this project's own.
use Rattle.std.specs.Prelude.{◌≡◌, ℕ, ◌+◌, ◌*◌, ◌/◌, List, length, get_or, slice_get, Option, Some, None, Result, Ok, Err, if◌then◌else◌}
use Rattle.layers.specs.declared.stack.Stack.{Stack}
use Rattle.layers.specs.Stack.{stack_contents, stack_layers}
use Rattle.sector.specs.declared.refusal.Refusal.{Refusal}
use Rattle.sector.specs.declared.refusal.Refusal.TheVariants.{NoSuchDevice}
use Rattle.words.specs.Given.{Gives, ◌>>=◌}
use Rattle.table.specs.declared.status.StatusState.{StatusState}
use Rattle.table.specs.declared.status.StatusState.TheVariants.{Invalid, Overflow, Used}
use Rattle.table.specs.Lines.{snapshot_text}
use Rattle.plain_machine.specs.Plain.{did_overflow}
use Rattle.whole_commands.specs.Devices.{Device, sectors_of}
use Rattle.event_machine.specs.Held.{SnapHeld, Moving}
use Rattle.snapshot.specs.Kept.{Kept}
use Rattle.volume.specs.Moved.{held_of}
use Rattle.volume.specs.Volumed.{Volumed}
use Rattle.volume_commands.specs.Flying.{flying_of, without_store}
use Rattle.volume_commands.specs.Rested.{Rested}
use Rattle.command_semantics.specs.declared.place.Role.{Role}
use Rattle.command_semantics.specs.declared.place.Role.TheVariants.{Origin, Under, Snapshot, Store, Merging, MergingStore}
use Rattle.command_semantics.specs.Stacks.{device_of}
use Rattle.command_semantics.specs.State.{Volume}
use Rattle.command_semantics.specs.Messages.{snap_at}
use Rattle.command_semantics.specs.Status.{status_in}
use Rattle.device_list.specs.Flights.{IsBehind}

-- What is used of a store: all up to the next place, and the header and the areas, which hold no copies.
abbrev pub used_flying : SnapHeld → Device → StatusState
used_flying h store = Used (h.snap.chunk * h.next) (sectors_of store) (h.snap.chunk * (length h.pairs / (32 * h.snap.chunk) + 2))

-- what is said of a live snapshot over its store, and of any
abbrev pub live_flying : SnapHeld → Device → StatusState
live_flying h store = if did_overflow h.snap.overflow then Overflow else used_flying h store

abbrev pub state_flying : SnapHeld → Device → StatusState
state_flying h store = if h.snap.live then live_flying h store else Invalid

-- the same of one that a volume of events keeps
abbrev pub kept_held : Kept Stack → SnapHeld
kept_held s = without_store (held_of stack_contents stack_layers s)

abbrev pub state_kept : Kept Stack → StatusState
state_kept s = state_flying (kept_held s) (device_of s.device)

-- a state is that of snapshot k
abbrev pub IsStateAt : StatusState → ℕ → Rested Stack → Type 0
IsStateAt state k volume = (d : Kept Stack) → state ≡ state_kept (get_or volume.events.snaps k d)

-- what is in memory of snapshot k
abbrev pub held_at : ℕ → Moving → Result SnapHeld Refusal
held_at k moving = there (slice_get moving.snaps k)
  where
    there : Option SnapHeld → Result SnapHeld Refusal
    there None = Err NoSuchDevice
    there (Some h) = Ok h

-- The status line of a device: that of a snapshot is by what is in memory, and every other is what it is where nothing is in
-- flight.
unfoldable pub status_flying : Role → Volume → Moving → Result (List ℕ) Refusal
status_flying (Snapshot k) volume moving = do
  snap ← snap_at k volume.state
  held ← held_at k moving
  Ok (snapshot_text (sectors_of volume.state.origin) (state_flying held snap.store))
status_flying Origin volume moving = status_in Origin volume
status_flying (Under depth) volume moving = status_in (Under depth) volume
status_flying (Store k depth) volume moving = status_in (Store k depth) volume
status_flying Merging volume moving = status_in Merging volume
status_flying (MergingStore depth) volume moving = status_in (MergingStore depth) volume

-- What a status line says of a device in any case, whatever is in flight and whichever device drops writes: of a snapshot by what is
-- in memory in the volume of events behind.
abbrev pub IsStatusOf : Result (List ℕ) Refusal → Role → Volume → Type 0
IsStatusOf result (Snapshot k) volume = (events : Volumed Stack) × IsBehind events volume × Gives result (status_flying (Snapshot k) volume (flying_of stack_contents stack_layers events))
IsStatusOf result Origin volume = Gives result (status_in Origin volume)
IsStatusOf result (Under depth) volume = Gives result (status_in (Under depth) volume)
IsStatusOf result (Store k depth) volume = Gives result (status_in (Store k depth) volume)
IsStatusOf result Merging volume = Gives result (status_in Merging volume)
IsStatusOf result (MergingStore depth) volume = Gives result (status_in (MergingStore depth) volume)

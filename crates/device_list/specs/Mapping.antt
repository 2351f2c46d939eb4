-- What `map` tells of a volume in any case, whatever is in flight and whichever device drops writes: by what is in memory in the volume of
-- events behind.
use Rattle.std.specs.Prelude.{◌≡◌, ℕ, List, slice_get, Option, Some, None, Result, Err}
use Rattle.layers.specs.declared.stack.Stack.{Stack}
use Rattle.sector.specs.declared.refusal.Refusal.{Refusal}
use Rattle.sector.specs.declared.refusal.Refusal.TheVariants.{BadTable, MergingSnapshot, NoSuchDevice}
use Rattle.words.specs.Given.{Gives}
use Rattle.whole_commands.specs.Devices.{sectors_of}
use Rattle.snapshot.specs.Kept.{Kept}
use Rattle.volume.specs.Volumed.{Volumed}
use Rattle.command_semantics.specs.declared.place.Role.{Role}
use Rattle.command_semantics.specs.declared.place.Role.TheVariants.{Origin, Under, Snapshot, Store, Merging, MergingStore}
use Rattle.command_semantics.specs.State.{Volume}
use Rattle.command_semantics.specs.Mapping.{snapshot_map}
use Rattle.device_list.specs.Flights.{IsBehind}

-- a snapshot with these pairs, and so on
abbrev pub kept_map : ℕ → Kept Stack → Result (List ℕ) Refusal
kept_map sectors s = snapshot_map sectors s.live s.state.chunk s.pairs

abbrev pub kept_map_if : ℕ → Option (Kept Stack) → Result (List ℕ) Refusal
kept_map_if sectors None = Err NoSuchDevice
kept_map_if sectors (Some s) = kept_map sectors s

-- snapshot k of a volume of events
abbrev pub map_behind : ℕ → Volume → Volumed Stack → Result (List ℕ) Refusal
map_behind k volume events = kept_map_if (sectors_of volume.state.origin) (slice_get events.snaps k)

-- a device of a volume: no other has pairs, and those of a snapshot that is being merged go away
abbrev pub IsMapOf : Result (List ℕ) Refusal → Role → Volume → Type 0
IsMapOf result (Snapshot k) volume = (events : Volumed Stack) × IsBehind events volume × Gives result (map_behind k volume events)
IsMapOf result Origin volume = result ≡ Err BadTable
IsMapOf result (Under depth) volume = result ≡ Err BadTable
IsMapOf result (Store k depth) volume = result ≡ Err BadTable
IsMapOf result Merging volume = result ≡ Err MergingSnapshot
IsMapOf result (MergingStore depth) volume = result ≡ Err BadTable

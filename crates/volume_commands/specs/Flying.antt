-- What is in flight in a volume, and what is in memory of its snapshots: the event machine without its devices' bytes and
-- layers, which callers see by themselves.
use Rattle.std.specs.Prelude.{◌≡◌, ℕ, List, [], Option, Some, None, map}
use Rattle.device.specs.Layers.{Layer}
use Rattle.whole_commands.specs.Devices.{Device}
use Rattle.event_machine.specs.Held.{SnapHeld, MergeHeld, Moving, on_device}
use Rattle.volume.specs.Volumed.{Volumed}
use Rattle.volume.specs.Moved.{moving_of}
use Rattle.volume_commands.specs.Rested.{Rested, rested_of}

-- a device of which nothing is told
abbrev pub untold : Device
untold = record { bytes = []; layers = [] }

-- a snapshot without its store
abbrev pub without_store : SnapHeld → SnapHeld
without_store h = record h { snap = record h.snap { store = untold } }

-- and a merge
abbrev pub without_merging_store : Option MergeHeld → Option MergeHeld
without_merging_store None = None
without_merging_store (Some m) = Some (on_device m untold)

-- a volume of events without its devices
abbrev pub without_devices : Moving → Moving
without_devices v = record v { origin = untold; snaps = map without_store v.snaps; merge = without_merging_store v.merge }

abbrev pub flying_of : {B : Type 0} → (B → List ℕ) → (B → List Layer) → Volumed B → Moving
flying_of contents layers v = without_devices (moving_of contents layers None v)

-- a volume by commands is all that its volume of events shows
abbrev pub IsWhole : {B : Type 0} → Rested B → Type 0
IsWhole v = v ≡ rested_of v.events

-- A volume by whole commands, as its callers see it, and the settled machine's volume that it is. This project's own.
use Rattle.std.specs.Prelude.{◌≡◌, ◌==◌, ◌&&◌, ℕ, Bool, true, List, [], ◌∷◌, Option, Some, None, map, if◌then◌else◌}
use Rattle.std.specs.List.{list_any, list_all}
use Rattle.device.specs.Layers.{Layer, is_loud}
use Rattle.plain_machine.specs.declared.request.Dev.{Dev}
use Rattle.plain_machine.specs.declared.request.Dev.TheVariants.{Origin, Snap as ToSnap}
use Rattle.event_machine.specs.MergeRest.{merge_in}
use Rattle.whole_commands.specs.Merges.{Merged}
use Rattle.whole_commands.specs.Snaps.{Snap, SnapOn, Volume}
use Rattle.snapshot.specs.Kept.{Kept}
use Rattle.volume.specs.Volumed.{Volumed, is_loud_with}
use Rattle.volume.specs.Causes.{counts_with}
use Rattle.volume.specs.Leaving.{is_quiet_of}
use Rattle.volume.specs.Moved.{device_of, moving_of}

-- a snapshot, over its store's device
abbrev pub Attached : Type 0 → Type 0
Attached B = SnapOn B

-- requests, copies, attached: how many numbers of each kind were given; events: the volume of events that it is, of which
-- callers need to know no more than whether it is settled or quiet, and which of its events are due.
pub record Rested (B : Type 0) : Type 0 where
  pub origin : B
  -- in order of attaching
  pub snaps : List (Attached B)
  pub requests : ℕ
  pub copies : ℕ
  pub attached : ℕ
  pub events : Volumed B

abbrev pub attached_of : {B : Type 0} → Kept B → Attached B
attached_of s = record { number = s.number; chunk = s.state.chunk; live = s.live; stale = s.stale; overflow = s.overflow; store = s.device }

-- what callers see of a volume of events
abbrev pub rested_of : {B : Type 0} → Volumed B → Rested B
rested_of v = record { origin = v.origin; snaps = map attached_of v.snaps; requests = v.requests; copies = v.copies; attached = v.attached; events = v }

abbrev pub snap_of : {B : Type 0} → (B → List ℕ) → (B → List Layer) → Attached B → Snap
snap_of contents layers s = record { number = s.number; chunk = s.chunk; live = s.live; stale = s.stale; overflow = s.overflow; store = device_of contents layers s.store }

-- the settled machine's volume: the devices' own bytes and layers
abbrev pub settled_of : {B : Type 0} → (B → List ℕ) → (B → List Layer) → Rested B → Volume
settled_of contents layers v = record { origin = device_of contents layers v.origin; snaps = map (snap_of contents layers) v.snaps }

-- whether a write that is answered by one of its devices is done
abbrev pub is_loud_in : {B : Type 0} → (B → List Layer) → Rested B → Bool
is_loud_in layers v = is_loud_with layers v.events.merge (is_loud (layers v.origin) && list_all (λ s. is_loud (layers s.store)) v.snaps)

-- the same with the merge, if one is begun
abbrev pub merged_of : {B : Type 0} → (B → List ℕ) → (B → List Layer) → Rested B → Merged
merged_of contents layers v = record { volume = settled_of contents layers v; merge = merge_in (moving_of contents layers None v.events).merge }

-- No device drops writes, and nothing is in flight or left to do, but for what a merge has left between two of its groups.
-- Then all that is kept in memory of a live snapshot and of the merge is what their stores' own bytes say.
pub record IsSettled {B : Type 0} (layers : B → List Layer) (v : Rested B) : Type 0 where
  pub loud : is_loud_in layers v ≡ true
  pub quiet : is_quiet_of v.events ≡ true

abbrev pub has_number : {B : Type 0} → ℕ → Attached B → Bool
has_number number s = s.number == number

-- whether a request's device is there
abbrev pub has_dev : {B : Type 0} → Dev → Rested B → Bool
has_dev Origin v = true
has_dev (ToSnap number) v = list_any (has_number number) v.snaps

-- what no command on a device changes: which snapshots there are, the sectors of their chunks, and of each device, the
-- merging store last
abbrev pub numbers_of : {B : Type 0} → Rested B → List ℕ
numbers_of v = map (λ s. s.number) v.snaps

abbrev pub chunks_of : {B : Type 0} → Rested B → List ℕ
chunks_of v = map (λ s. s.chunk) v.snaps

abbrev pub sizes_of : {B : Type 0} → (B → ℕ) → Rested B → List ℕ
sizes_of size v = counts_with size v.events.merge (size v.origin ∷ map (λ s. size s.store) v.snaps)

-- the first snapshot with a number
abbrev pub snap_at : {B : Type 0} → ℕ → List (Attached B) → Option (Attached B)
snap_at number [] = None
snap_at number (s ∷ snaps) = if s.number == number then Some s else snap_at number snaps

-- and the others
abbrev pub without : {B : Type 0} → ℕ → List (Attached B) → List (Attached B)
without number [] = []
without number (s ∷ snaps) = if s.number == number then snaps else s ∷ without number snaps

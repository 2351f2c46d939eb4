-- To be believed: what an event of a volume does to both files of a snapshot, that of the origin and that of its store. The
-- kernel's admin-guide page on snapshots says so in words: a chunk is copied to the store before the first write to it.
use Rattle.std.specs.Prelude.{◌≡◌, ◌≢◌, ◌⊎◌, ℕ, suc, ◌<◌, true, false, List, Some, length, map, slice_index_or}
use Rattle.device.specs.Layers.{Layer}
use Rattle.plain_machine.specs.declared.event.Event.{Event}
use Rattle.in_flight.specs.Kinds.{in_flight}
use Rattle.crash_laws.specs.Stop.{IsTorn}
use Rattle.crash_laws.specs.Clauses.{Given}
use Rattle.snapshot.specs.Kept.{Kept}
use Rattle.volume.specs.Stopping.{given_by}
use Rattle.volume.specs.Volumed.{Volumed, is_loud_in_all}
use Rattle.read_beside_writer.specs.Moments.{Files, IsLive, IsSavedFirst}

-- what both files of a snapshot hold
abbrev pub files_of : {B : Type 0} → (B → List ℕ) → Volumed B → Kept B → Files
files_of contents v s = record { origin = contents v.origin; store = contents s.device }

-- A moment from one to another, over files of so many sectors: of each file, each sector is as before or as after.
pub record IsBetween (sectors size : ℕ) (old new mid : Files) : Type 0 where
  pub origin : IsTorn sectors old.origin new.origin mid.origin
  pub store : IsTorn size old.store new.store mid.store

-- the event issues no write of this snapshot's array, if that is live: those of a spoiled one are refused
abbrev pub IsNotWritten : {B : Type 0} → Event → Volumed B → Kept B → Type 0
IsNotWritten event v s = s.live ≡ true → (g : Given) → given_by event (map in_flight v.flights) ≡ Some g → g.array ≢ Some s.number

-- Each snapshot whose store is not stale, and that the event does not write, is saved first: from any moment of the event to any
-- later one. Where it is live later, it was before. That is said where no device drops writes.
pub record SavesFirst {B : Type 0} (contents : B → List ℕ) (layers : B → List Layer) (size : B → ℕ) (event : Event) (old new : Volumed B) : Type 0 where
  pub each : (k : ℕ) (s t : Kept B) → k < length old.snaps → s ≡ slice_index_or old.snaps k s → t ≡ slice_index_or new.snaps k t → is_loud_in_all layers new ≡ true → s.stale ≡ false → IsNotWritten event old s
      → (mid later : Files) → IsBetween (size old.origin) (size s.device) (files_of contents old s) (files_of contents new t) mid → IsBetween (size old.origin) (size s.device) mid (files_of contents new t) later
      → IsLive s.state.chunk later → IsLive s.state.chunk mid × IsSavedFirst s.state.chunk mid later

-- A moment of a snapshot's files within an event of a volume that saves first, and a later one.
pub record IsWithin {B : Type 0} (contents : B → List ℕ) (layers : B → List Layer) (size : B → ℕ) (chunk : ℕ) (mid later : Files) : Type 0 where
  pub event : Event
  pub old : Volumed B
  pub new : Volumed B
  pub saves : SavesFirst contents layers size event old new
  pub place : ℕ
  pub snap : Kept B
  pub becomes : Kept B
  pub within : place < length old.snaps
  pub was : snap ≡ slice_index_or old.snaps place snap
  pub is : becomes ≡ slice_index_or new.snaps place becomes
  pub loud : is_loud_in_all layers new ≡ true
  pub fresh : snap.stale ≡ false
  pub unwritten : IsNotWritten event old snap
  pub chunk_is : snap.state.chunk ≡ chunk
  pub first : IsBetween (size old.origin) (size snap.device) (files_of contents old snap) (files_of contents new becomes) mid
  pub rest : IsBetween (size old.origin) (size snap.device) mid (files_of contents new becomes) later

-- Moments of a volume that runs, as far as it neither writes nor merges the snapshot: from each to the next nothing of the files
-- changes, or what an event changes.
abbrev pub AreMoments : {B : Type 0} → (B → List ℕ) → (B → List Layer) → (B → ℕ) → ℕ → (ℕ → Files) → Type 0
AreMoments contents layers size chunk files = (m : ℕ) → (files (suc m) ≡ files m) ⊎ IsWithin contents layers size chunk (files m) (files (suc m))

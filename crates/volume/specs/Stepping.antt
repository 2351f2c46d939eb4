-- To be believed: `run`'s output, a volume's steps or its attach are said in these words.
-- What an event that was due does to a volume.
use Rattle.std.specs.Prelude.{◌≡◌, ℕ, ◌+◌, ◌<◌, ◌≤◌, Bool, true, false, List, Option, Some, None, map}
use Rattle.device.specs.Layers.{Layer}
use Rattle.plain_machine.specs.declared.event.Event.{Event}
use Rattle.plain_machine.specs.declared.event.Event.TheVariants.{MergeAreaRead, MergeCommit, MergeFlush, MergeGroup, MergeRead, MergeWrite, Publish}
use Rattle.plain_machine.specs.declared.event.Outcome.{Outcome}
use Rattle.plain_machine.specs.declared.event.Outcome.TheVariants.{Fault}
use Rattle.plain_machine.specs.Legal.{IsLegalStep}
use Rattle.in_flight.specs.Kinds.{in_flight}
use Rattle.merge.specs.Merging.{Merging}
use Rattle.volume.specs.Volumed.{Volumed, plain_of, left_in_all, is_loud_in_all}
use Rattle.snapshot_list.specs.Numbers.{number_of_snap}
use Rattle.volume.specs.Flying.{IsFlown}
use Rattle.volume.specs.Causes.{HasCause, IsOneAtMost, counts_of}

-- the number and the sectors of a chunk of the snapshot that is being merged
abbrev pub merged_of : {B : Type 0} → Option (Merging B) → Option (ℕ × ℕ)
merged_of None = None
merged_of (Some m) = Some (m.number, m.state.chunk)

-- What no event and no request changes: how many snapshots were attached, which of them there are, the sectors of their
-- chunks, which one is being merged, and the sectors of every device.
pub record KeepsAll {B : Type 0} (size : B → ℕ) (old new : Volumed B) : Type 0 where
  pub attached : new.attached ≡ old.attached
  pub numbers : map number_of_snap new.snaps ≡ map number_of_snap old.snaps
  pub chunks : map (λ s. s.state.chunk) new.snaps ≡ map (λ s. s.state.chunk) old.snaps
  pub merged : merged_of new.merge ≡ merged_of old.merge
  pub sizes : counts_of size new ≡ counts_of size old

-- what no request changes: every device, how many snapshots were attached, which of them there are, the sectors of their
-- chunks, and the merge
pub record KeepsDevices {B : Type 0} (old new : Volumed B) : Type 0 where
  pub origin : new.origin ≡ old.origin
  pub devices : map (λ s. s.device) new.snaps ≡ map (λ s. s.device) old.snaps
  pub attached : new.attached ≡ old.attached
  pub numbers : map number_of_snap new.snaps ≡ map number_of_snap old.snaps
  pub chunks : map (λ s. s.state.chunk) new.snaps ≡ map (λ s. s.state.chunk) old.snaps
  pub merge : new.merge ≡ old.merge

-- how many copies an event starts at most: one in each other snapshot, of which there are seven; and where a copy is
-- published, one in its snapshot
abbrev pub starts_by : Event → ℕ
starts_by (Publish n) = 1
starts_by MergeGroup = 7
starts_by MergeWrite = 7
starts_by event = 0

-- whether a merge is begun that stopped at a fault; and whether it is after an event: only a fault of its own stops it
abbrev pub has_failed : {B : Type 0} → Option (Merging B) → Bool
has_failed None = false
has_failed (Some m) = m.failed

abbrev pub failed_by : Event → Outcome → Bool → Bool
failed_by MergeAreaRead Fault was = true
failed_by MergeRead Fault was = true
failed_by MergeWrite Fault was = true
failed_by MergeFlush Fault was = true
failed_by MergeCommit Fault was = true
failed_by event outcome was = was

-- Where no device drops writes, the plain machine takes the step that the outcome tells. Whatever the devices do, a whole
-- number falls, the cause is counted, a request leaves only where it is answered, at most one operation is done, no
-- request is numbered, only the events that start copies for a merge number any, and no snapshot is marked for a full store.
pub record IsStepped {B : Type 0} (contents : B → List ℕ) (layers : B → List Layer) (size faults done : B → ℕ) (event : Event) (outcome : Outcome) (old new : Volumed B) : Type 0 where
  pub legal : is_loud_in_all layers old ≡ true → IsLegalStep (plain_of contents layers old) event outcome (plain_of contents layers new)
  pub lower : left_in_all contents layers new < left_in_all contents layers old
  pub loud : is_loud_in_all layers new ≡ is_loud_in_all layers old
  pub cause : HasCause faults event outcome old new
  pub failed : has_failed new.merge ≡ failed_by event outcome (has_failed old.merge)
  pub flown : IsFlown event outcome (map in_flight old.flights) (map in_flight new.flights)
  pub one : IsOneAtMost done old new
  pub kept : KeepsAll size old new
  pub requests : new.requests ≡ old.requests
  pub copies : new.copies ≤ old.copies + starts_by event
  pub given : old.copies ≤ new.copies
  pub overflows : map (λ s. s.overflow) new.snaps ≡ map (λ s. s.overflow) old.snaps

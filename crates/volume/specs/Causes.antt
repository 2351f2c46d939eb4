-- To be believed: `run`'s output, a volume's steps or its attach are said in these words.
-- What made an event fail, and how many operations it did: which device's counts rose, and which snapshot was spoiled. The
-- rules are this project's own, after the kernel's admin-guide page on snapshots: a store that fails makes its own
-- snapshot invalid, and nothing else.
use Rattle.std.specs.Prelude.{◌≡◌, ◌⊎◌, ℕ, suc, ◌+◌, ◌*◌, ◌<◌, ◌≤◌, Bool, true, false, List, [], ◌∷◌, ◌++◌, Option, Some, None, Any, length, map, slice_index, slice_index_or, slice_set, if◌then◌else◌}
use Rattle.std.specs.List.{remove}
use Rattle.sector.specs.Bytes.{next_count}
use Rattle.cow_format.specs.NextPlace.{LacksArea}
use Rattle.cow_format.specs.Places.{area_place}
use Rattle.sector.specs.declared.pair.Pair.{Pair}
use Rattle.plain_machine.specs.declared.event.Event.{Event}
use Rattle.plain_machine.specs.declared.event.Event.TheVariants.{CopyRead, CopyWrite, FlushStore, MergeAreaRead, MergeCommit, MergeFlush, MergeGroup, MergeRead, MergeWrite, Publish, ZeroNext, WriteArea, WriteInvalid}
use Rattle.plain_machine.specs.declared.event.Outcome.{Outcome}
use Rattle.plain_machine.specs.declared.event.Outcome.TheVariants.{Done, Fault, Reply as Replied}
use Rattle.plain_machine.specs.declared.request.Reply.{Reply}
use Rattle.plain_machine.specs.declared.request.Reply.TheVariants.{Refused}
use Rattle.plain_machine.specs.declared.request.Failure.TheVariants.{Io}
use Rattle.in_flight.specs.declared.copies.Mark.{Mark}
use Rattle.in_flight.specs.declared.flights.Flight.{Flight}
use Rattle.in_flight.specs.declared.flights.Route.TheVariants.{Origin, Store, Whole}
use Rattle.in_flight.specs.Kinds.{kind_of}
use Rattle.in_flight.specs.declared.flights.Kind.TheVariants.{OriginRead, OriginWrite, OriginFlush, SnapRead, SnapWrite, SnapFlush}
use Rattle.snapshot.specs.Kept.{Kept}
use Rattle.volume_laws.specs.MergeDue.{last_of}
use Rattle.merge.specs.Lists.{next_of_group, waiting_of}
use Rattle.merge.specs.Merging.{Merging}
use Rattle.snapshot_list.specs.Starting.{overflows_chunk}
use Rattle.snapshot_list.specs.MergeStarting.{next_for}
use Rattle.volume.specs.Volumed.{Volumed}

-- what some devices counted, and then the merging store
abbrev pub counts_with : {B : Type 0} → (B → ℕ) → Option (Merging B) → List ℕ → List ℕ
counts_with count None counts = counts
counts_with count (Some m) counts = counts ++ count m.device ∷ []

-- what each device counted: the origin disk, which is device 0, then each snapshot's store, and the merging store last
abbrev pub counts_of : {B : Type 0} → (B → ℕ) → Volumed B → List ℕ
counts_of count v = counts_with count v.merge (count v.origin ∷ map (λ s. count s.device) v.snaps)

-- one device counted one more
abbrev pub counted : ℕ → List ℕ → List ℕ
counted device counts = slice_set counts device (next_count (slice_index counts device))

-- which snapshots are live
abbrev pub lives_of : {B : Type 0} → Volumed B → List Bool
lives_of v = map (λ s. s.live) v.snaps

-- at most one operation, of one device
abbrev pub IsOneAtMost : {B : Type 0} → (B → ℕ) → Volumed B → Volumed B → Type 0
IsOneAtMost done old new =
    (counts_of done new ≡ counts_of done old) ⊎ ((device : ℕ) × (device < length (counts_of done old)) × (counts_of done new ≡ counted device (counts_of done old)))

-- no device failed, and no snapshot was spoiled
pub record IsFaultless {B : Type 0} (faults : B → ℕ) (old new : Volumed B) : Type 0 where
  pub counts : counts_of faults new ≡ counts_of faults old
  pub lives : lives_of new ≡ lives_of old

-- a device failed, and no snapshot was spoiled
pub record FailsAlone {B : Type 0} (faults : B → ℕ) (device : ℕ) (old new : Volumed B) : Type 0 where
  pub counts : counts_of faults new ≡ counted device (counts_of faults old)
  pub lives : lives_of new ≡ lives_of old

-- a device failed, and just the snapshot at this place was spoiled by it
pub record Spoils {B : Type 0} (faults : B → ℕ) (device place : ℕ) (old new : Volumed B) : Type 0 where
  pub counts : counts_of faults new ≡ counted device (counts_of faults old)
  pub was : slice_index_or (lives_of old) place false ≡ true
  pub lives : lives_of new ≡ slice_set (lives_of old) place false

-- the snapshot at a place
pub record IsAt {B : Type 0} (place : ℕ) (s : Kept B) (v : Volumed B) : Type 0 where
  pub within : place < length v.snaps
  pub is : s ≡ slice_index_or v.snaps place s

-- No device failed, and the snapshot whose next area lies outside of its store was spoiled.
pub record LacksNext {B : Type 0} (faults : B → ℕ) (number : ℕ) (old new : Volumed B) : Type 0 where
  pub place : ℕ
  pub snap : Kept B
  pub at : IsAt place snap old
  pub mine : snap.number ≡ number
  pub lacks : LacksArea snap.state.chunk snap.state.size (snap.state.current + 1)
  pub counts : counts_of faults new ≡ counts_of faults old
  pub lives : lives_of new ≡ slice_set (lives_of old) place false

-- A copy that fails spoils its own snapshot: device says which of the devices fails, by the snapshot's place.
pub record CopyFails {B : Type 0} (faults : B → ℕ) (device : ℕ → ℕ) (number : ℕ) (old new : Volumed B) : Type 0 where
  pub place : ℕ
  pub snap : Kept B
  pub at : IsAt place snap old
  pub mine : Any (λ p. p.number ≡ number) snap.copies
  pub spoils : Spoils faults (device place) place old new

-- a store that fails spoils its own snapshot
pub record StoreFails {B : Type 0} (faults : B → ℕ) (number : ℕ) (old new : Volumed B) : Type 0 where
  pub place : ℕ
  pub snap : Kept B
  pub at : IsAt place snap old
  pub mine : snap.number ≡ number
  pub spoils : Spoils faults (suc place) place old new

-- a store that fails while its next area is zeroed, which lies wholly in it, spoils its own snapshot
pub record ZeroFails {B : Type 0} (faults : B → ℕ) (number : ℕ) (old new : Volumed B) : Type 0 where
  pub place : ℕ
  pub snap : Kept B
  pub at : IsAt place snap old
  pub mine : snap.number ≡ number
  pub there : snap.state.chunk * (area_place snap.state.chunk (snap.state.current + 1) + 1) ≤ snap.state.size
  pub spoils : Spoils faults (suc place) place old new

-- a spoiled snapshot's mark fails, or the flush after it: its store is stale, and nothing is spoiled
pub record MarkFails {B : Type 0} (faults : B → ℕ) (number : ℕ) (old new : Volumed B) : Type 0 where
  pub place : ℕ
  pub snap : Kept B
  pub at : IsAt place snap old
  pub mine : snap.number ≡ number
  pub untried : snap.untried ≡ true
  pub stale : slice_index_or (map (λ s. s.stale) new.snaps) place false ≡ true
  pub fails : FailsAlone faults (suc place) old new

-- An operation of the merge fails, on the merging store or on the origin disk: the merge stops, and nothing is spoiled.
pub record MergeFails {B : Type 0} (faults : B → ℕ) (device : ℕ) (old new : Volumed B) : Type 0 where
  pub merge : Merging B
  pub is : new.merge ≡ Some merge
  pub failed : merge.failed ≡ true
  pub fails : FailsAlone faults device old new

-- the merging store's device, which is counted last
abbrev pub merging_device : {B : Type 0} → Volumed B → ℕ
merging_device v = suc (length v.snaps)

-- the device that a request of this kind goes to by its route: the origin disk, the store of the first snapshot with its
-- number, or of an origin's request the merging store; a flush of a whole store to that store
pub record GoesTo {B : Type 0} (number device : ℕ) (v : Volumed B) : Type 0 where
  pub place : ℕ
  pub flight : Flight
  pub within : place < length v.flights
  pub is : flight ≡ slice_index_or v.flights place flight
  pub mine : flight.number ≡ number
  pub route : ((flight.route ≡ Origin) × (device ≡ 0))
      ⊎ ((stored : ℕ) × (snap : ℕ) × (s : Kept B) × (flight.route ≡ Store stored) × IsAt snap s v × (device ≡ suc snap)
      × ((kind_of flight.request ≡ SnapRead s.number) ⊎ (kind_of flight.request ≡ SnapWrite s.number)))
      ⊎ ((stored : ℕ) × (m : Merging B) × (flight.route ≡ Store stored) × (v.merge ≡ Some m) × (device ≡ merging_device v)
      × ((kind_of flight.request ≡ OriginRead) ⊎ (kind_of flight.request ≡ OriginWrite)))
      ⊎ ((snap : ℕ) × (s : Kept B) × (flight.route ≡ Whole) × IsAt snap s v × (device ≡ suc snap) × (kind_of flight.request ≡ SnapFlush s.number))
      ⊎ ((m : Merging B) × (flight.route ≡ Whole) × (v.merge ≡ Some m) × (device ≡ merging_device v) × (kind_of flight.request ≡ OriginFlush))

-- whether a snapshot lacks the chunk that a pair waits for next in it, of merged chunks of so many sectors, on an origin of
-- so many, and its store is full
abbrev pub is_lost : {B : Type 0} → ℕ → ℕ → Pair → Kept B → Bool
is_lost chunk sectors q s = overflows_chunk (next_for chunk sectors q s) s

-- which snapshots are live once the copies that a pair waits for are started, of merged chunks of so many sectors, on an
-- origin of so many: those that were, but for those that lack theirs and have no place for it
abbrev pub lives_saved : {B : Type 0} → ℕ → ℕ → Option Pair → List (Kept B) → List Bool
lives_saved chunk sectors None snaps = map (λ s. s.live) snaps
lives_saved chunk sectors (Some q) snaps = map (λ s. if is_lost chunk sectors q s then false else s.live) snaps

-- No device failed, and the other snapshots save what the chunk waits for that the merge then copies next: those are spoiled
-- that have no place for it.
pub record SavesNext {B : Type 0} (faults : B → ℕ) (old new : Volumed B) : Type 0 where
  pub merge : Merging B
  pub is : new.merge ≡ Some merge
  pub counts : counts_of faults new ≡ counts_of faults old
  pub lives : lives_of new ≡ lives_saved merge.state.chunk merge.state.origin (last_of (waiting_of merge.group)) old.snaps

-- a snapshot with one mark less
abbrev pub unmarked : {B : Type 0} → ℕ → Kept B → Kept B
unmarked index s = record s { marks = remove s.marks index }

-- No device failed, and just the snapshot was spoiled whose copy was published: once it was, the chunk that the merge copies
-- next waited for another copy there, and its store is full.
pub record FillsUp {B : Type 0} (faults : B → ℕ) (number : ℕ) (old new : Volumed B) : Type 0 where
  pub place : ℕ
  pub snap : Kept B
  pub at : IsAt place snap old
  pub index : ℕ
  pub mine : (m : Mark) → m ≡ slice_index_or snap.marks index m → m.number ≡ number
  pub merge : Merging B
  pub is : old.merge ≡ Some merge
  pub pair : Pair
  pub next : next_of_group merge.group ≡ Some pair
  pub full : is_lost merge.state.chunk merge.state.origin pair (unmarked index snap) ≡ true
  pub counts : counts_of faults new ≡ counts_of faults old
  pub lives : lives_of new ≡ slice_set (lives_of old) place false

-- what made an event fail that names no request
abbrev pub HasFailed : {B : Type 0} → (B → ℕ) → Event → Volumed B → Volumed B → Type 0
HasFailed faults (CopyRead number) old new = CopyFails faults (λ place. 0) number old new
HasFailed faults (CopyWrite number) old new = CopyFails faults suc number old new
HasFailed faults (ZeroNext number) old new = ZeroFails faults number old new
HasFailed faults (WriteArea number) old new = StoreFails faults number old new
HasFailed faults (WriteInvalid number) old new = MarkFails faults number old new
HasFailed faults (FlushStore number) old new = StoreFails faults number old new ⊎ MarkFails faults number old new
HasFailed faults MergeAreaRead old new = MergeFails faults (merging_device old) old new
HasFailed faults MergeRead old new = MergeFails faults (merging_device old) old new
HasFailed faults MergeWrite old new = MergeFails faults 0 old new
HasFailed faults MergeFlush old new = MergeFails faults 0 old new
HasFailed faults MergeCommit old new = MergeFails faults (merging_device old) old new
HasFailed faults event old new = ⊥

-- an event that is done: one that zeroes an area spoils where the store has no room for it, and one that starts copies for a
-- merge where a store has no room for its copy
abbrev pub HasDone : {B : Type 0} → (B → ℕ) → Event → Volumed B → Volumed B → Type 0
HasDone faults (ZeroNext number) old new = IsFaultless faults old new ⊎ LacksNext faults number old new
HasDone faults (Publish number) old new = IsFaultless faults old new ⊎ FillsUp faults number old new
HasDone faults MergeGroup old new = SavesNext faults old new
HasDone faults MergeWrite old new = SavesNext faults old new
HasDone faults event old new = IsFaultless faults old new

-- a reply: Io where the device failed that the request goes to
abbrev pub HasReplied : {B : Type 0} → (B → ℕ) → ℕ → Reply → Volumed B → Volumed B → Type 0
HasReplied faults number (Refused Io) old new = (device : ℕ) × GoesTo number device old × FailsAlone faults device old new
HasReplied faults number reply old new = IsFaultless faults old new

-- what made the outcome
abbrev pub HasCause : {B : Type 0} → (B → ℕ) → Event → Outcome → Volumed B → Volumed B → Type 0
HasCause faults event Done old new = HasDone faults event old new
HasCause faults event Fault old new = HasFailed faults event old new
HasCause faults event (Replied number reply) old new = HasReplied faults number reply old new

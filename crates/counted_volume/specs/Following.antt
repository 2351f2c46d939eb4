-- Events that are known to follow another without a search. This project's own.
use Rattle.std.specs.Prelude.{◌≡◌, ◌⊎◌, ◌==◌, ◌&&◌, ◌<◌, ◌≤◌, ℕ, Bool, true, false, List, [], ◌∷◌, length, map, slice_index_or, Option, None, Some}
use Rattle.std.specs.List.{list_all, list_any}
use Rattle.sector.specs.declared.pair.Pair.{Pair}
use Rattle.device.specs.Layers.{Layer}
use Rattle.plain_machine.specs.declared.event.Event.{Event}
use Rattle.plain_machine.specs.declared.event.Event.TheVariants.{CopyRead, CopyWrite, WriteArea, Publish, FlushStore}
use Rattle.plain_machine.specs.declared.event.Outcome.{Outcome}
use Rattle.plain_machine.specs.declared.event.Outcome.TheVariants.{Done, Fault, Reply as Replies}
use Rattle.plain_machine.specs.declared.request.Dev.{Dev}
use Rattle.plain_machine.specs.declared.request.Dev.TheVariants.{Origin, Snap}
use Rattle.plain_machine.specs.declared.request.Reply.{Reply}
use Rattle.in_flight.specs.declared.copies.Stage.TheVariants.{Read}
use Rattle.plain_machine.specs.Replies.{reply_in}
use Rattle.in_flight.specs.Kinds.{in_flight}
use Rattle.in_flight.specs.declared.flights.Flight.{Flight}
use Rattle.snapshot.specs.Kept.{Kept, due_of_kept}
use Rattle.snapshot_list.specs.Busy.{is_busy, waiting_due}
use Rattle.snapshot_list.specs.Finding.{has_copy_at}
use Rattle.event_machine.specs.Held.{MergeHeld, Moving, group_in}
use Rattle.event_machine.specs.Due.{due}
use Rattle.event_machine.specs.MergeDue.{due_all}
use Rattle.event_machine.specs.Seen.{replied_by}
use Rattle.event_machine.specs.Stepping.{stepped}
use Rattle.volume.specs.EventKinds.{is_of_merge}
use Rattle.volume.specs.Exact.{IsExact}
use Rattle.volume.specs.Flying.{IsFlown}
use Rattle.volume.specs.Moved.{moving_of}
use Rattle.volume.specs.Reaching.{IsRun}
use Rattle.volume.specs.Stepping.{KeepsAll}
use Rattle.volume.specs.Volumed.{Volumed, is_loud_in_all, left_in_all}
use Rattle.counted_volume.specs.DoneDue.{AreDone, IsDoneDue, told_by, IsDoneFirst}
use Rattle.counted_volume.specs.Places.{Counted}
use Rattle.counted_volume.specs.TakesPlaces.{TakesByRequests}

-- After a chunk was read it is written, the store of a snapshot is flushed, its area written, and its store flushed again; after
-- an area was written its store is flushed; after any other event it is not known. s: the snapshot that has the copy.
abbrev pub following : Event → ℕ → List Event
following (CopyRead n) s = CopyWrite n ∷ FlushStore s ∷ WriteArea s ∷ FlushStore s ∷ []
following (WriteArea t) s = FlushStore t ∷ []
following event s = []

-- and where the copy is alone in its snapshot, its mark is taken away then
abbrev pub all_following : ℕ → ℕ → List Event
all_following n s = CopyWrite n ∷ FlushStore s ∷ WriteArea s ∷ FlushStore s ∷ Publish n ∷ []

-- a snapshot has the copy n, whose chunk was read, and no other
abbrev pub is_alone : {B : Type 0} → ℕ → Kept B → Bool
is_alone n s = has_copy_at Read n s && (length s.copies == 1)

abbrev pub is_origin : Dev → Bool
is_origin Origin = true
is_origin (Snap n) = false

abbrev pub is_of_origin : Flight → Bool
is_of_origin f = is_origin f.request.dev

-- The copy n, whose chunk was read, is alone in a snapshot, and all requests in flight are the origin's: none reads that chunk.
pub record IsAlone {B : Type 0} (n : ℕ) (v : Volumed B) : Type 0 where
  pub copy : list_any (is_alone n) v.snaps ≡ true
  pub requests : list_all is_of_origin v.flights ≡ true

-- Of these events some first ones were done, one after the other, and after them the last reply is this. One with another
-- outcome than Done is the last.
abbrev pub AreCarried : {B : Type 0} → (B → List ℕ) → (B → List Layer) → List Event → Reply → Reply → Volumed B → Volumed B → Type 0
AreCarried contents layers [] before after old new = (new ≡ old) × (after ≡ before)
AreCarried contents layers (next ∷ events) before after old new =
    ((new ≡ old) × (after ≡ before))
    ⊎ ((outcome : Outcome) × (mid : Volumed _) × IsExact contents layers next outcome old mid × (is_loud_in_all layers mid ≡ is_loud_in_all layers old)
    × (((new ≡ mid) × (Some after ≡ replied_by outcome (Some before))) ⊎ ((outcome ≡ Done) × AreCarried contents layers events before after mid new)))

-- the events that follow this one were done so, of some snapshot; or, of a copy that is alone, all
abbrev pub IsFollowed : {B : Type 0} → (B → List ℕ) → (B → List Layer) → Event → Reply → Reply → Volumed B → Volumed B → Type 0
IsFollowed contents layers done before after old new =
    ((s : ℕ) × AreCarried contents layers (following done s) before after old new)
    ⊎ ((n : ℕ) × (s : ℕ) × (done ≡ CopyRead n) × IsAlone n old × AreCarried contents layers (all_following n s) before after old new)

-- these events were all done, one after the other
abbrev pub AreAllDone : {B : Type 0} → (B → List ℕ) → (B → List Layer) → List Event → Volumed B → Volumed B → Type 0
AreAllDone contents layers [] old new = new ≡ old
AreAllDone contents layers (next ∷ events) old new = (mid : Volumed _) × IsExact contents layers next Done old mid × (is_loud_in_all layers mid ≡ is_loud_in_all layers old) × AreAllDone contents layers events mid new

-- an element stands at this place
abbrev pub StandsAt : {X : Type 0} → ℕ → List X → X → Type 0
StandsAt k xs x = (k < length xs) × (x ≡ slice_index_or xs k x)

-- The copy n, whose chunk was read, was alone, and all that follows was done; of its snapshot, which stands at this place, no more is due
-- than reads of chunks; and of those and of requests this comes first.
pub record IsNextDue {B : Type 0} (contents : B → List ℕ) (layers : B → List Layer) (n : ℕ) (next : Event) (old new : Volumed B) : Type 0 where
  pub snap : ℕ
  pub place : ℕ
  pub alone : IsAlone n old
  pub here : (s : Kept B) × StandsAt place old.snaps s × (has_copy_at Read n s ≡ true)
  pub done : AreAllDone contents layers (all_following n snap) old new
  pub there : (s : Kept B) × StandsAt place new.snaps s × (is_busy (due_of_kept contents layers s) ≡ false)
  pub waiting : waiting_due (map (due_of_kept contents layers) new.snaps) new.flights ≡ Some next

-- the pairs of the present group of a merge
abbrev pub grouped : Option MergeHeld → List Pair
grouped None = []
grouped (Some m) = group_in m

-- a volume was reached from another by events that were due first, and where no device drops writes its merge has no group
pub record IsOn {B : Type 0} (contents : B → List ℕ) (layers : B → List Layer) (first last : Reply) (start now : Volumed B) : Type 0 where
  pub run : IsRun contents layers (Some first) (Some last) start now
  pub free : is_loud_in_all layers start ≡ true → grouped (moving_of contents layers None now).merge ≡ []

-- what was reached before is so after
abbrev pub GoesOn : {B : Type 0} → (B → List ℕ) → (B → List Layer) → Reply → Reply → Volumed B → Volumed B → Type 0
GoesOn contents layers before after old new = (first : Reply) (start : Volumed _) → IsOn contents layers first before start old → IsOn contents layers first after start new

-- The read of the copy n was due first and was done, and this is the volume after it, where no device drops writes; its merge has no
-- group.
pub record IsReadFirst {B : Type 0} (contents : B → List ℕ) (layers : B → List Layer) (n : ℕ) (v : Volumed B) : Type 0 where
  pub first : is_loud_in_all layers v ≡ true → (replied : Option Reply) → (m : Moving) × (due m ≡ Some (CopyRead n)) × (stepped (CopyRead n) m ≡ moving_of contents layers replied v)
  pub free : is_loud_in_all layers v ≡ true → grouped (moving_of contents layers None v).merge ≡ []

-- Events were done, each where it was due, and this is the last reply of them, or the one before. `which` says which events.
pub record AreDoneSo {B : Type 0} (holds : B → ℕ → List ℕ → Type 0) (contents : B → List ℕ) (layers : B → List Layer) (faults size : B → ℕ) (which : Type 0) (before after : Reply) (old new : Counted B) : Type 0 where
  pub so : which
  pub did : AreDone holds contents layers faults size before after old.volume new.volume
  pub loud : is_loud_in_all layers new.volume ≡ is_loud_in_all layers old.volume
  pub kept : KeepsAll size old.volume new.volume
  pub requests : new.volume.requests ≡ old.volume.requests
  pub left : left_in_all contents layers new.volume ≤ left_in_all contents layers old.volume
  pub taken : TakesByRequests old new

-- One event was done, or was not due. Where they `go` on, it was done, nothing failed, nothing was answered, and less is left.
pub record IsCarried {B : Type 0} (holds : B → ℕ → List ℕ → Type 0) (contents : B → List ℕ) (layers : B → List Layer) (faults size : B → ℕ) (event : Event) (go : Bool) (before after : Reply) (old new : Counted B) : Type 0 where
  pub ends : AreDoneSo holds contents layers faults size (AreCarried contents layers (event ∷ []) before after old.volume new.volume) before after old new
  pub goes_on : go ≡ true → (after ≡ before) × IsExact contents layers event Done old.volume new.volume × (left_in_all contents layers new.volume < left_in_all contents layers old.volume)

-- nothing failed, and nothing was answered
abbrev pub is_done : Outcome → Bool
is_done (Replies number reply) = false
is_done Done = true
is_done Fault = false

-- An event that was due was done: the last reply is its own then, or the one before. They `go` on just where nothing failed, and nothing
-- was answered.
pub record IsDoneHere {B : Type 0} (holds : B → ℕ → List ℕ → Type 0) (contents : B → List ℕ) (layers : B → List Layer) (faults size : B → ℕ) (event : Event) (go : Bool) (before after : Reply) (old new : Counted B) : Type 0 where
  pub outcome : Outcome
  pub done : IsDoneDue holds contents layers faults size event outcome old.volume new.volume
  pub told : after ≡ told_by outcome before
  pub goes_on : go ≡ is_done outcome
  pub loud : is_loud_in_all layers new.volume ≡ is_loud_in_all layers old.volume
  pub kept : KeepsAll size old.volume new.volume
  pub lower : left_in_all contents layers new.volume < left_in_all contents layers old.volume
  pub taken : TakesByRequests old new

-- The event that was due first was done, and that was the machine's too.
pub record IsStep {B : Type 0} (holds : B → ℕ → List ℕ → Type 0) (contents : B → List ℕ) (layers : B → List Layer) (faults size : B → ℕ) (event : Event) (outcome : Outcome) (old new : Volumed B) : Type 0 where
  pub done : IsDoneFirst holds contents layers faults size event outcome old new
  pub due : (replied : Option Reply) → due_all (moving_of contents layers replied old) ≡ Some event
  pub kept : KeepsAll size old new
  pub loud : is_loud_in_all layers new ≡ is_loud_in_all layers old
  pub requests : new.requests ≡ old.requests
  pub flown : IsFlown event outcome (map in_flight old.flights) (map in_flight new.flights)

-- these events were done so, in this order: each is one of a merge, and nothing was answered
abbrev pub AreSteps : {B : Type 0} → (B → ℕ → List ℕ → Type 0) → (B → List ℕ) → (B → List Layer) → (B → ℕ) → (B → ℕ) → List (Event × Outcome) → Volumed B → Volumed B → Type 0
AreSteps holds contents layers faults size [] old new = new ≡ old
AreSteps holds contents layers faults size (x ∷ xs) old new =
    (mid : Volumed _) × IsStep holds contents layers faults size x.0 x.1 old mid × (is_of_merge x.0 ≡ true) × (reply_in x.1 ≡ []) × AreSteps holds contents layers faults size xs mid new

-- Events of a merge were done, and nothing was answered.
pub record AreMerged {B : Type 0} (holds : B → ℕ → List ℕ → Type 0) (contents : B → List ℕ) (layers : B → List Layer) (faults size : B → ℕ) (old new : Counted B) : Type 0 where
  pub steps : List (Event × Outcome)
  pub chain : AreSteps holds contents layers faults size steps old.volume new.volume
  pub left : left_in_all contents layers new.volume ≤ left_in_all contents layers old.volume
  pub taken : TakesByRequests old new

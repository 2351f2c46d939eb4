-- The merge of a volume changes, and with it maybe the origin disk and where requests go: the volume stays whole, and the
-- event does what a step promises.
use Rattle.std.proofs.Common.{◌≡◌, ℕ, ◌+◌, ◌<◌, ◌≤◌, Bool, true, List, [], ◌∷◌, ◌++◌, Option, Some, length, map, refl, sym, ◌∙◌, ap, subst, arith}
use Rattle.std.specs.Prelude.{◌&&◌, sum_by}
use Rattle.std.specs.List.{All, list_all}
use Rattle.std.proofs.lemmas.List.{length-map}
use Rattle.chunk.specs.Sizes.{is_chunk}
use Rattle.device.specs.Layers.{Layer, is_loud}
use Rattle.plain_machine.specs.declared.event.Event.{Event}
use Rattle.plain_machine.specs.declared.event.Outcome.{Outcome}
use Rattle.in_flight.specs.Due.{number_of_flight}
use Rattle.in_flight.specs.Kinds.{in_flight}
use Rattle.in_flight.specs.declared.flights.Flight.{Flight}
use Rattle.volume_laws.specs.Books.{SnapBooks}
use Rattle.volume_laws.specs.Due.{weight_of, books_of as due_in}
use Rattle.volume_laws.specs.MergeDue.{left_beside, left_in_merge}
use Rattle.volume_laws.specs.MergeRooms.{KeepBack}
use Rattle.volume_laws.specs.MergeSteps.{ChangesMerge}
use Rattle.volume_laws.specs.MergeWaits.{MergeGoes}
use Rattle.volume_laws.specs.Waits.{Waits}
use Rattle.volume_laws.specs.Whole.{Holds}
use Rattle.volume_laws.proofs.MergeSteps.{IsMergeStep}
use Rattle.snapshot.specs.Kept.{Kept, books_of as snap_books}
use Rattle.merge.specs.Merging.{Merging, books_of as merging_books, due_of as merging_due}
use Rattle.snapshot_list.specs.Rooms.{merge_books, room_of}
use Rattle.volume.specs.Volumed.{Volumed, books_of, plain_of, is_loud_with, is_loud_in_all, dues_of, left_in_all, left_by, merge_due}
use Rattle.volume.specs.Whole.{AreNumbers, IsAttached, IsMerged, GoesOn, IsWhole}
use Rattle.volume.specs.Causes.{HasCause, IsOneAtMost, counts_of}
use Rattle.volume.specs.Stepping.{KeepsAll, merged_of, has_failed, failed_by}
use Rattle.volume.proofs.Good.{IsGood, Spoiling, Staying, same_numbers, legal_by}
use Rattle.volume.proofs.Shown.{due_books}

-- whether writes are done changes nothing of what a merge needs to go on
pub goes_any : {B : Type 0} (contents : B → List ℕ) (snaps : List SnapBooks) (m : Merging B) (a b : Bool) → MergeGoes snaps (merging_due contents a m) → MergeGoes snaps (merging_due contents b m)
goes_any contents snaps m a b h = record {
  staged = record { one = h.staged.one; read = h.staged.read; written = h.staged.written; copied = h.staged.copied; over = h.staged.over; out = h.staged.out; none = h.staged.none };
  ending = h.ending;
  area = h.area;
  next = h.next;
  saved = h.saved;
}

-- what an event of the merge leaves of it
pub record StaysMerged {B : Type 0} (layers : B → List Layer) (size : B → ℕ) (m m' : Merging B) : Type 0 where
  pub number : m'.number ≡ m.number
  pub chunk_is : m'.state.chunk ≡ m.state.chunk
  pub origin : m'.state.origin ≡ m.state.origin
  pub loud : is_loud (layers m'.device) ≡ is_loud (layers m.device)
  pub sized : size m'.device ≡ size m.device

-- an origin disk of the same sectors, and as loud
pub record DiskStays {B : Type 0} (layers : B → List Layer) (size : B → ℕ) (o o' : B) : Type 0 where
  pub sectors : size o' ≡ size o
  pub loud : is_loud (layers o') ≡ is_loud (layers o)

pub disk_stays : {B : Type 0} (layers : B → List Layer) (size : B → ℕ) (o : B) → DiskStays layers size o o
disk_stays layers size o = record { sectors = refl; loud = refl }

-- a volume with this disk, this merge and these requests in flight
abbrev pub merged_to : {B : Type 0} → Volumed B → B → Merging B → List Flight → Volumed B
merged_to v o m flights = record v { origin = o; merge = Some m; flights = flights }

module _ {B : Type 0} (contents : B → List ℕ) (layers : B → List Layer) (size : B → ℕ) (v : Volumed B) (m : Merging B) (was : v.merge ≡ Some m) where
  -- whether what the merge writes is done
  abbrev pub loudness : Bool
  loudness = is_loud (layers v.origin) && is_loud (layers m.device)

  -- what is kept of the merge
  pub merged_in : IsWhole contents layers size v → IsMerged contents layers size m v
  merged_in h = subst (λ (x : Option (Merging B)). GoesOn contents layers size x v) was h.merge

  pub books_merged : (books_of contents layers size v).merge ≡ Some (merging_books contents loudness m)
  books_merged = ap (merge_books contents layers (is_loud (layers v.origin))) was

  pub goes_here : IsWhole contents layers size v → MergeGoes (map (snap_books contents layers) v.snaps) (merging_due contents loudness m)
  goes_here h = (merged_in h).goes loudness

  module _ (o' : B) (m' : Merging B) (stays : StaysMerged layers size m m') (disk : DiskStays layers size v.origin o') where
    books_now : (is_loud (layers o') && is_loud (layers m'.device)) ≡ loudness
    books_now = ap (λ b. b && is_loud (layers m'.device)) disk.loud ∙ ap (λ b. is_loud (layers v.origin) && b) stays.loud

    -- its books change as the merge's do
    pub merge_changes : ChangesMerge (merging_books contents loudness m) (merging_books contents loudness m') (books_of contents layers size v) (books_of contents layers size (merged_to v o' m' v.flights))
    merge_changes = record {
      was = books_merged;
      merge = ap (λ b. Some (merging_books contents b m')) books_now;
      sectors = disk.sectors;
      loud = disk.loud;
      snaps = refl;
      requests = refl;
    }

    -- the volume is whole again
    pub whole_merged : (flights : List Flight) → IsWhole contents layers size v → map number_of_flight flights ≡ map number_of_flight v.flights
        → Holds (books_of contents layers size (merged_to v o' m' flights)) → Waits (books_of contents layers size (merged_to v o' m' flights))
        → ((loud : Bool) → MergeGoes (map (snap_books contents layers) v.snaps) (merging_due contents loud m')) → KeepBack m'.state.chunk m'.state.origin m'.pairs (map (room_of contents layers) v.snaps)
        → IsWhole contents layers size (merged_to v o' m' flights)
    whole_merged flights h numbers holds waits goes rooms =
        let one = merged_in h in
        let merge : IsMerged contents layers size m' (merged_to v o' m' flights) = record {
          origin = stays.origin ∙ one.origin ∙ sym disk.sectors;
          allowed = ap is_chunk stays.chunk_is ∙ one.allowed;
          apart = subst (λ n. All (λ s. s.number ≡ n → ⊥) v.snaps) (sym stays.number) one.apart;
          given = subst (λ n. n ≤ v.attached) (sym stays.number) one.given;
          few = one.few;
          goes = goes;
          rooms = rooms;
        } in
        record {
          holds = holds;
          waits = waits;
          merge = merge;
          snaps = subst (λ n. All (IsAttached v.copies n) v.snaps) (sym disk.sectors) h.snaps;
          counted = h.counted;
          apart = h.apart;
          numbers = h.numbers;
          requests = subst (AreNumbers v.requests) (sym numbers) h.requests;
          few = h.few;
          few_copies = h.few_copies;
          few_requests = omega (arith, h.few_requests, ap length numbers, length-map flights number_of_flight, length-map v.flights number_of_flight);
          numbers_left = h.numbers_left;
        }

    pub lower_merged : (flights : List Flight) → sum_by weight_of flights ≡ sum_by weight_of v.flights → left_in_merge (merging_due contents loudness m') < left_in_merge (merging_due contents loudness m)
        → left_beside (map (snap_books contents layers) v.snaps) (merging_due contents loudness m') ≤ left_beside (map (snap_books contents layers) v.snaps) (merging_due contents loudness m)
        → left_in_all contents layers (merged_to v o' m' flights) < left_in_all contents layers v
    lower_merged flights same less beside =
        let at : left_by (dues_of contents layers v) (merge_due contents v.merge) ≡ left_in_merge (merging_due contents true m) + left_beside (map due_in (dues_of contents layers v)) (merging_due contents true m) =
        ap (λ (x : Option (Merging B)). left_by (dues_of contents layers v) (merge_due contents x)) was in
        let before : left_in_merge (merging_due contents true m) ≡ left_in_merge (merging_due contents loudness m) = refl in
        let after : left_in_merge (merging_due contents true m') ≡ left_in_merge (merging_due contents loudness m') = refl in
        let old : left_beside (map due_in (dues_of contents layers v)) (merging_due contents true m) ≡ left_beside (map (snap_books contents layers) v.snaps) (merging_due contents loudness m) =
        ap (λ xs. left_beside xs (merging_due contents true m)) (due_books contents layers v.snaps) in
        let new : left_beside (map due_in (dues_of contents layers v)) (merging_due contents true m') ≡ left_beside (map (snap_books contents layers) v.snaps) (merging_due contents loudness m') =
        ap (λ xs. left_beside xs (merging_due contents true m')) (due_books contents layers v.snaps) in
        omega (arith, same, less, beside, at, before, after, old, new)

    pub loud_merged : (flights : List Flight) → is_loud_in_all layers (merged_to v o' m' flights) ≡ is_loud_in_all layers v
    loud_merged flights =
        ap (λ b. (b && list_all (λ (s : Kept B). is_loud (layers s.device)) v.snaps) && is_loud (layers m'.device)) disk.loud
        ∙ ap (λ b. (is_loud (layers v.origin) && list_all (λ (s : Kept B). is_loud (layers s.device)) v.snaps) && b) stays.loud
        ∙ sym (ap (λ (x : Option (Merging B)). is_loud_with layers x (is_loud (layers v.origin) && list_all (λ (s : Kept B). is_loud (layers s.device)) v.snaps)) was)

    pub kept_merged : (flights : List Flight) → KeepsAll size v (merged_to v o' m' flights)
    kept_merged flights = record {
      attached = refl;
      numbers = refl;
      chunks = refl;
      merged = ap (λ n. Some (n, m'.state.chunk)) stays.number ∙ ap (λ n. Some (m.number, n)) stays.chunk_is ∙ sym (ap merged_of was);
      sizes = ap (λ n. n ∷ (map (λ (s : Kept B). size s.device) v.snaps ++ size m'.device ∷ [])) disk.sectors
          ∙ ap (λ n. size v.origin ∷ (map (λ (s : Kept B). size s.device) v.snaps ++ n ∷ [])) stays.sized
          ∙ sym (ap (λ (x : Option (Merging B)). counts_of size (record v { merge = x })) was);
    }

    -- an event of the merge, which numbers no copies
    module _ (faults done : B → ℕ) (h : IsWhole contents layers size v) (event : Event) (outcome : Outcome) (told : Spoiling event outcome) (still : Staying event outcome) where
      pub merged_good : (flights : List Flight) → map in_flight flights ≡ map in_flight v.flights → sum_by weight_of flights ≡ sum_by weight_of v.flights
          → IsMergeStep (books_of contents layers size v) (books_of contents layers size (merged_to v o' m' flights)) (merging_due contents loudness m) (merging_due contents loudness m')
          → KeepBack m'.state.chunk m'.state.origin m'.pairs (map (room_of contents layers) v.snaps)
          → m'.failed ≡ failed_by event outcome m.failed
          → HasCause faults event outcome v (merged_to v o' m' flights) → IsOneAtMost done v (merged_to v o' m' flights)
          → IsGood contents layers size faults done event outcome v (merged_to v o' m' flights)
      merged_good flights same_flights weights step rooms failed cause one =
          let numbers = same_numbers v.flights flights same_flights in
          let w = merged_to v o' m' flights in
          record {
            whole = whole_merged flights h numbers step.change.silent.holds step.change.waits (λ loud. goes_any contents (map (snap_books contents layers) v.snaps) m' loudness loud step.goes) rooms;
            stepped = record {
              legal = λ l. told (plain_of contents layers v) (plain_of contents layers w) (legal_by contents layers size v w [] step.change.silent.step l);
              lower = lower_merged flights weights step.less step.beside;
              loud = loud_merged flights;
              cause = cause;
              failed = failed ∙ ap (failed_by event outcome) (sym (ap has_failed was));
              flown = still (map in_flight v.flights) (map in_flight w.flights) same_flights;
              one = one;
              kept = kept_merged flights;
              requests = refl;
              copies = omega arith;
              given = omega arith;
              overflows = refl;
            };
          }

-- The events of a merge that start no copies leave its volume whole, and do what a step promises.
use Rattle.std.proofs.Common.{◌≡◌, ◌≢◌, inl, inr, ℕ, ◌<◌, Bool, true, false, List, [], ◌∷◌, ◌++◌, Option, Some, None, length, map, refl, sym, ◌∙◌, ap, subst}
use Rattle.std.specs.Prelude.{◌&&◌, sum_by}
use Rattle.std.specs.List.{All, list_all}
use Rattle.sector.specs.Bytes.{next_count}
use Rattle.sector.specs.declared.pair.Pair.{Pair}
use Rattle.device.specs.Layers.{Layer, is_loud}
use Rattle.plain_machine.specs.declared.event.Event.{Event}
use Rattle.plain_machine.specs.declared.event.Event.TheVariants.{MergeAreaRead, MergeCommit, MergeFlush, MergeRead, MergeRelease}
use Rattle.plain_machine.specs.declared.event.Outcome.TheVariants.{Done, Fault}
use Rattle.in_flight.specs.Kinds.{in_flight}
use Rattle.in_flight.specs.declared.flights.Flight.{Flight}
use Rattle.volume_laws.specs.Again.{again_of, Reroutes}
use Rattle.volume_laws.specs.Books.{SnapBooks, Books}
use Rattle.volume_laws.specs.Held.{SnapHolds}
use Rattle.volume_laws.specs.Merging.{MergeHolds}
use Rattle.volume_laws.specs.MergeDue.{DueMerge, last_of, is_merge_due, can_read, can_release, left_in_merge}
use Rattle.volume_laws.specs.MergeRooms.{room_books, KeepBack}
use Rattle.volume_laws.specs.MergeSteps.{ChangesMerge, ReadsBack, FlushesBack, CommitsGroup, ReleasesGroup, ReadsArea, FailsMerge}
use Rattle.volume_laws.specs.MergeWaits.{MergeGoes}
use Rattle.volume_laws.specs.Published.{is_clear}
use Rattle.volume_laws.specs.Whole.{OriginHolds}
use Rattle.volume_laws.proofs.MergeSteps.{IsMergeStep, read_step, flush_step, commit_step, release_step, area_step, fault_step}
use Rattle.volume_laws.proofs.MergeRoomSteps.{rooms_read, rooms_flushed, rooms_committed, rooms_released, rooms_area, rooms_failed}
use Rattle.volume_laws.proofs.MergeTests.{read_test, release_test, due_going, due_some}
use Rattle.snapshot.specs.Kept.{Kept, books_of as snap_books}
use Rattle.merge.specs.Merging.{Merging, books_of as merging_books, due_of as merging_due}
use Rattle.merge.specs.Steps.{ReadsInto, WritesArea}
use Rattle.snapshot_list.specs.Rooms.{merge_books, room_of}
use Rattle.volume.specs.Volumed.{Volumed, books_of, is_loud_in_all, is_loud_with}
use Rattle.volume.specs.Whole.{IsWhole}
use Rattle.volume.specs.Causes.{HasCause, IsFaultless, IsOneAtMost, merging_device, MergeFails}
use Rattle.volume.specs.Stepping.{failed_by}
use Rattle.volume.proofs.AgainEvents.{again_flown}
use Rattle.volume.proofs.Weights.{again_weights}
use Rattle.volume_laws.specs.Due.{weight_of}
use Rattle.volume.proofs.Good.{IsGood, Spoiling, Staying}
use Rattle.volume.proofs.Shown.{and_right}
use Rattle.volume_laws.proofs.MergeEvents.{NoWriteTo}
use Rattle.volume.proofs.MergeChanging.{StaysMerged, DiskStays, disk_stays, merged_to, loudness, merged_in, goes_here, books_merged, merge_changes, merged_good}
use Rattle.volume.proofs.MergeCounting.{merged_same, merged_disk, merged_store, disk_within, store_within}

-- what a snapshot keeps back stands beside its books
pub rooms_seen : {B : Type 0} (contents : B → List ℕ) (layers : B → List Layer) (snaps : List (Kept B)) → map room_books (map (room_of contents layers) snaps) ≡ map (snap_books contents layers) snaps
rooms_seen contents layers [] = refl
rooms_seen contents layers (s ∷ snaps) = ap (λ xs. snap_books contents layers s ∷ xs) (rooms_seen contents layers snaps)

pub last_end : (rest : List Pair) (q : Pair) → last_of (rest ++ q ∷ []) ≡ Some q
last_end [] q = refl
last_end (p ∷ []) q = refl
last_end (p ∷ r ∷ rest) q = last_end (r ∷ rest) q

last_same : (rest rest' : List Pair) (q q' : Pair) → rest ++ q ∷ [] ≡ rest' ++ q' ∷ [] → q ≡ q'
last_same rest rest' q q' same = (let e : Some q ≡ Some q' = sym (last_end rest q) ∙ ap last_of same ∙ last_end rest' q' in cc)

-- the merge stops
abbrev pub stopped : {B : Type 0} → Merging B → Merging B
stopped m = record m { group = None; failed = true }

pub stopped_from : {B : Type 0} (m m1 m' : Merging B) → m' ≡ stopped m1 → m1 ≡ m → m' ≡ stopped m
stopped_from m m1 m' is kept = is ∙ ap stopped kept

pub stops_from : {B : Type 0} (contents : B → List ℕ) (m m1 m' : Merging B) → m1 ≡ m → ((loud : Bool) → FailsMerge (merging_due contents loud m1) (merging_due contents loud m')) → (loud : Bool) → FailsMerge (merging_due contents loud m) (merging_due contents loud m')
stops_from contents m m1 m' kept step loud = subst (λ (x : Merging _). FailsMerge (merging_due contents loud x) (merging_due contents loud m')) kept (step loud)

-- an operation that fails changes no books of the merge
pub fails_from : {B : Type 0} (contents : B → List ℕ) (m m1 m' : Merging B) → m1 ≡ record m { device = m1.device } → contents m1.device ≡ contents m.device
    → ((loud : Bool) → FailsMerge (merging_due contents loud m1) (merging_due contents loud m')) → (loud : Bool) → FailsMerge (merging_due contents loud m) (merging_due contents loud m')
fails_from contents m m1 m' kept same step loud =
    subst (λ (d : DueMerge). FailsMerge d (merging_due contents loud m'))
    (ap (merging_due contents loud) kept ∙ ap (λ (store : List ℕ). record (merging_due contents loud m) { books = record (merging_books contents loud m) { store = store } }) same) (step loud)

-- where no device drops writes, the merging store drops none
pub loud_merging : {B : Type 0} (contents : B → List ℕ) (layers : B → List Layer) (size : B → ℕ) (v : Volumed B) (m : Merging B) → v.merge ≡ Some m → is_loud_in_all layers v ≡ true → is_loud (layers m.device) ≡ true
loud_merging contents layers size v m was loud =
    and_right (is_loud (layers v.origin) && list_all (λ (s : Kept _). is_loud (layers s.device)) v.snaps) (is_loud (layers m.device))
    (sym (ap (λ (x : Option (Merging _)). is_loud_with layers x (is_loud (layers v.origin) && list_all (λ (s : Kept _). is_loud (layers s.device)) v.snaps)) was) ∙ loud)

module _ {B : Type 0} (contents : B → List ℕ) (layers : B → List Layer) (size faults done : B → ℕ) (v : Volumed B) (h : IsWhole contents layers size v) (m : Merging B) (was : v.merge ≡ Some m) where
  abbrev sound : Bool
  sound = loudness contents layers size v m was

  abbrev before : DueMerge
  before = merging_due contents sound m

  -- what is kept of the merge's bytes
  pub holds_merge : MergeHolds (contents v.origin) v.flights (merging_books contents sound m)
  holds_merge = subst (OriginHolds (contents v.origin) v.flights) (books_merged contents layers size v m was) h.holds.merge

  pub chunk_some : 0 < m.state.chunk
  chunk_some = holds_merge.text.some

  goes : MergeGoes (map (snap_books contents layers) v.snaps) (merging_due contents sound m)
  goes = goes_here contents layers size v m was h

  goes_true : MergeGoes (map (snap_books contents layers) v.snaps) (merging_due contents true m)
  goes_true = (merged_in contents layers size v m was h).goes true

  rooms : KeepBack m.state.chunk m.state.origin m.pairs (map (room_of contents layers) v.snaps)
  rooms = (merged_in contents layers size v m was h).rooms

  -- a merge of which an event is due runs, and has pairs left, but for the release
  pub due_running : (event : Event) → is_merge_due (map (snap_books contents layers) v.snaps) v.flights (merging_due contents true m) event ≡ true → m.failed ≡ false
  due_running event due = (due_going (map (snap_books contents layers) v.snaps) v.flights (merging_due contents true m) event goes_true due).running

  pub due_unfinished : (event : Event) → event ≢ MergeRelease → is_merge_due (map (snap_books contents layers) v.snaps) v.flights (merging_due contents true m) event ≡ true → 0 < length m.pairs
  due_unfinished event other due = due_some (map (snap_books contents layers) v.snaps) v.flights (merging_due contents true m) event goes_true chunk_some other due

  -- where an event leaves all but the merging store as it was
  module _ (m' : Merging B) (stays : StaysMerged layers size m m') where
    abbrev here : Volumed B
    here = merged_to v v.origin m' v.flights

    abbrev after : DueMerge
    after = merging_due contents sound m'

    abbrev before_in : Books
    before_in = books_of contents layers size v

    abbrev after_in : Books
    after_in = books_of contents layers size here

    changes : ChangesMerge (merging_books contents sound m) (merging_books contents sound m') before_in after_in
    changes = merge_changes contents layers size v m was v.origin m' stays (disk_stays layers size v.origin)

    good : (event : Event) → Spoiling event Done → Staying event Done → IsMergeStep before_in after_in before after → KeepBack m'.state.chunk m'.state.origin m'.pairs (map (room_of contents layers) v.snaps) → m'.failed ≡ failed_by event Done m.failed
        → HasCause faults event Done v here → done m'.device ≡ next_count (done m.device) → IsGood contents layers size faults done event Done v here
    good event told still step kept failed cause counts =
        merged_good contents layers size v m was v.origin m' stays (disk_stays layers size v.origin) faults done h event Done told still v.flights refl refl step kept failed cause
        (inr (merging_device v, store_within v m m' was v.origin v.flights done, merged_store v m m' was v.origin v.flights done refl counts))

    faultless : faults m'.device ≡ faults m.device → IsFaultless faults v here
    faultless same = record { counts = merged_same v m m' was v.origin v.flights faults refl same; lives = refl }

    -- MergeRead
    pub read_good : (q : Pair) (rest : List Pair) → can_read v.flights (merging_books contents true m) ≡ true
        → ((loud : Bool) → ReadsBack rest q m'.buffer (merging_due contents loud m) (merging_due contents loud m') × ReadsInto q (merging_books contents loud m) (merging_books contents loud m'))
        → faults m'.device ≡ faults m.device → done m'.device ≡ next_count (done m.device) → IsGood contents layers size faults done MergeRead Done v here
    read_good q rest due step same counts =
        let (rest', q', may) = read_test v.flights (merging_books contents true m) due in
        let s = step sound in
        let one : q' ≡ q = last_same rest' rest q' q (sym may.last ∙ s.0.last) in
        good MergeRead (λ p q x. x) (λ xs ys e. e)
        (read_step before_in after_in before after h.holds h.waits goes changes rest q m'.buffer s.0 refl s.1.read s.1.sized (subst (λ (x : Pair). All (NoWriteTo x.new) v.flights) one may.quiet))
        (rooms_read (map (room_of contents layers) v.snaps) before after rooms rest q m'.buffer s.0)
        (s.0.failed ∙ sym s.0.running) (faultless same) counts

    -- MergeAreaRead
    pub area_good : ((loud : Bool) → ReadsArea (merging_due contents loud m) (merging_due contents loud m')) → faults m'.device ≡ faults m.device → done m'.device ≡ next_count (done m.device) → IsGood contents layers size faults done MergeAreaRead Done v here
    area_good step same counts =
        let s = step sound in
        good MergeAreaRead (λ p q x. x) (λ xs ys e. e) (area_step before_in after_in before after h.holds h.waits goes changes s refl) (rooms_area (map (room_of contents layers) v.snaps) before after rooms s) (s.failed ∙ sym s.running) (faultless same) counts

    -- MergeCommit
    pub commit_good : ((loud : Bool) → (loud ≡ true → is_loud (layers m.device) ≡ true) → CommitsGroup m'.pairs (contents m'.device) (merging_due contents loud m) (merging_due contents loud m') × WritesArea m.state.current (merging_books contents loud m) (merging_books contents loud m'))
        → faults m'.device ≡ faults m.device → done m'.device ≡ next_count (done m.device) → IsGood contents layers size faults done MergeCommit Done v here
    commit_good step same counts =
        let s = step sound (and_right (is_loud (layers v.origin)) (is_loud (layers m.device))) in
        let seen = rooms_seen contents layers v.snaps in
        good MergeCommit (λ p q x. x) (λ xs ys e. e)
        (commit_step before_in after_in before after h.holds h.waits goes changes m'.pairs m.state.current (contents m'.device) s.0 refl s.1.only s.1.stored)
        (rooms_committed (contents v.origin) v.flights (map (room_of contents layers) v.snaps) m'.pairs (contents m'.device) before after s.0
        (subst (All (SnapHolds (is_loud (layers v.origin)) (contents v.origin) v.flights)) (sym seen) h.holds.snaps) (subst (λ (xs : List SnapBooks). MergeGoes xs before) (sym seen) goes) rooms)
        (s.0.failed ∙ sym s.0.running) (faultless same) counts

  -- MergeFlush
  module _ (o' : B) (m' : Merging B) (stays : StaysMerged layers size m m') (disk : DiskStays layers size v.origin o') (same : contents o' ≡ contents v.origin) where
    pub flush_good : ((loud : Bool) → FlushesBack (merging_due contents loud m) (merging_due contents loud m')) → faults o' ≡ faults v.origin → done o' ≡ next_count (done v.origin) → m'.device ≡ m.device
        → IsGood contents layers size faults done MergeFlush Done v (merged_to v o' m' v.flights)
    flush_good step faultless counts device =
        let s = step sound in
        let w = merged_to v o' m' v.flights in
        merged_good contents layers size v m was o' m' stays disk faults done h MergeFlush Done (λ p q x. x) (λ xs ys e. e) v.flights refl refl
        (flush_step (books_of contents layers size v) (books_of contents layers size w) before (merging_due contents sound m') h.holds h.waits goes (merge_changes contents layers size v m was o' m' stays disk) s same)
        (rooms_flushed (map (room_of contents layers) v.snaps) before (merging_due contents sound m') rooms s)
        (s.failed ∙ sym s.running)
        (record { counts = merged_same v m m' was o' v.flights faults faultless (ap faults device); lives = refl })
        (inr (0, disk_within v m m' was o' v.flights done, merged_disk v m m' was o' v.flights done counts (ap done device)))

    -- held writes are routed again
    module _ (flights : List Flight) (routed : flights ≡ map (again_of (merge_books contents layers true (Some m')) (is_clear (map (snap_books contents layers) v.snaps))) v.flights) where
      abbrev middle : Books
      middle = books_of contents layers size (merged_to v o' m' v.flights)

      abbrev ended : Volumed B
      ended = merged_to v o' m' flights

      again : Reroutes (is_clear (map (snap_books contents layers) v.snaps)) middle (books_of contents layers size ended)
      again = record { requests = routed; origin = refl; sectors = refl; loud = refl; snaps = refl; merge = refl }

      flown : map in_flight flights ≡ map in_flight v.flights
      flown = ap (map in_flight) routed ∙ again_flown (merge_books contents layers true (Some m')) (is_clear (map (snap_books contents layers) v.snaps)) v.flights

      weights : sum_by weight_of flights ≡ sum_by weight_of v.flights
      weights = ap (sum_by weight_of) routed ∙ again_weights (merge_books contents layers true (Some m')) (is_clear (map (snap_books contents layers) v.snaps)) v.flights

      changed_in : ChangesMerge (merging_books contents sound m) (merging_books contents sound m') (books_of contents layers size v) middle
      changed_in = merge_changes contents layers size v m was o' m' stays disk

      -- MergeRelease
      pub release_good : can_release v.flights (merging_books contents true m) ≡ true → ((loud : Bool) → ReleasesGroup (merging_due contents loud m) (merging_due contents loud m')) → o' ≡ v.origin → m'.device ≡ m.device
          → IsGood contents layers size faults done MergeRelease Done v ended
      release_good due step origin device =
          let s = step sound in
          let may = release_test v.flights (merging_books contents true m) due in
          merged_good contents layers size v m was o' m' stays disk faults done h MergeRelease Done (λ p q x. x) (λ xs ys e. e) flights flown weights
          (release_step (books_of contents layers size v) middle before (merging_due contents sound m') h.holds h.waits goes changed_in (books_of contents layers size ended) again same s may.elsewhere)
          (rooms_released (map (room_of contents layers) v.snaps) before (merging_due contents sound m') rooms s)
          (s.failed ∙ sym s.running)
          (record { counts = merged_same v m m' was o' flights faults (ap faults origin) (ap faults device); lives = refl })
          (inl (merged_same v m m' was o' flights done (ap done origin) (ap done device)))

      -- a fault of one of its operations, which leaves the merge as m1 before it stops
      module _ (event : Event) (other : event ≢ MergeRelease) (told : Spoiling event Fault) (still : Staying event Fault) (stops : failed_by event Fault m.failed ≡ true)
          (due : is_merge_due (map (snap_books contents layers) v.snaps) v.flights (merging_due contents true m) event ≡ true) (step : (loud : Bool) → FailsMerge (merging_due contents loud m) (merging_due contents loud m')) where
        stop_good : HasCause faults event Fault v ended → IsOneAtMost done v ended → IsGood contents layers size faults done event Fault v ended
        stop_good cause one =
            let s = step sound in
            let going : 0 < left_in_merge (merging_due contents true m) = (due_going (map (snap_books contents layers) v.snaps) v.flights (merging_due contents true m) event goes_true due).some in
            merged_good contents layers size v m was o' m' stays disk faults done h event Fault told still flights flown weights
            (fault_step (books_of contents layers size v) middle before (merging_due contents sound m') h.holds h.waits goes changed_in (books_of contents layers size ended) again same s going)
            (rooms_failed (map (room_of contents layers) v.snaps) before (merging_due contents sound m') rooms s)
            (s.failed ∙ sym stops) cause one

        -- of the merging store
        pub store_stops : (MergeFails faults (merging_device v) v ended → HasCause faults event Fault v ended) → faults o' ≡ faults v.origin → done o' ≡ done v.origin → faults m'.device ≡ next_count (faults m.device) → done m'.device ≡ next_count (done m.device)
            → IsGood contents layers size faults done event Fault v ended
        store_stops cause calm idle faulty counts = stop_good
            (cause (record { merge = m'; is = refl; failed = (step sound).failed; fails = record { counts = merged_store v m m' was o' flights faults calm faulty; lives = refl } }))
            (inr (merging_device v, store_within v m m' was o' flights done, merged_store v m m' was o' flights done idle counts))

        -- of the origin disk
        pub disk_stops : (MergeFails faults 0 v ended → HasCause faults event Fault v ended) → faults m'.device ≡ faults m.device → done m'.device ≡ done m.device → faults o' ≡ next_count (faults v.origin) → done o' ≡ next_count (done v.origin)
            → IsGood contents layers size faults done event Fault v ended
        disk_stops cause calm idle faulty counts = stop_good
            (cause (record { merge = m'; is = refl; failed = (step sound).failed; fails = record { counts = merged_disk v m m' was o' flights faults faulty calm; lives = refl } }))
            (inr (0, disk_within v m m' was o' flights done, merged_disk v m m' was o' flights done counts idle))

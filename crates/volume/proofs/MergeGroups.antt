-- MergeGroup: a group is formed, and the copies of the chunk that is copied first are started.
use Rattle.std.proofs.Common.{◌≡◌, inl, ℕ, ◌+◌, ◌*◌, ◌<◌, ◌≤◌, Bool, true, List, [], ◌∷◌, ◌++◌, Option, Some, length, get_or, map, refl, sym, ◌∙◌, ap, subst, arith, length-append}
use Rattle.std.specs.Prelude.{◌&&◌}
use Rattle.std.specs.List.{All}
use Rattle.std.proofs.lemmas.List.{length-map, get_or-map, get_or_default, get_or_append_left, get_or-append-add}
use Rattle.sector.specs.declared.pair.Pair.{Pair}
use Rattle.device.specs.Layers.{Layer, is_loud}
use Rattle.cow_format.specs.Pairs.{IsInside}
use Rattle.plain_machine.specs.declared.event.Event.TheVariants.{MergeGroup}
use Rattle.plain_machine.specs.declared.event.Outcome.TheVariants.{Done}
use Rattle.in_flight.specs.Due.{number_of_copy, number_of_mark}
use Rattle.in_flight.specs.declared.copies.ChunkCopy.{ChunkCopy}
use Rattle.in_flight.specs.declared.flights.Flight.{Flight}
use Rattle.volume_laws.specs.Books.{MergeBooks, SnapBooks}
use Rattle.volume_laws.specs.Held.{SnapHolds}
use Rattle.volume_laws.specs.MergeDue.{DueMerge, can_group, last_of, next_pair}
use Rattle.volume_laws.specs.MergeRooms.{RoomSnap, room_books, KeepBack}
use Rattle.volume_laws.specs.MergeSteps.{FormsGroup}
use Rattle.volume_laws.specs.MergeWaits.{IsSavedSoon, MergeSteady, next_pairs}
use Rattle.volume_laws.specs.Merging.{MergeHolds}
use Rattle.volume_laws.specs.Whole.{Holds, OriginHolds}
use Rattle.volume_laws.proofs.Lists.{All-back}
use Rattle.volume_laws.proofs.MergeRoomStarts.{HaveRoom, has_room, room_next}
use Rattle.volume_laws.proofs.MergeSaved.{goes_steady, steady_grouped}
use Rattle.volume_laws.proofs.MergeSteps.{IsMergeChange, IsMergeStart, group_change, group_step}
use Rattle.snapshot.specs.Kept.{Kept, books_of as snap_books}
use Rattle.snapshot_list.specs.Starting.{lacks_chunk}
use Rattle.store.specs.Grouping.{IsGroup, run_at}
use Rattle.merge.specs.Due.{can_group_of}
use Rattle.merge.specs.Lists.{formed, waiting_of, reading_of}
use Rattle.merge.specs.Merging.{Merging, books_of as merging_books, due_of as merging_due}
use Rattle.merge.specs.declared.group.Group.{Group}
use Rattle.snapshot_list.specs.Rooms.{room_of}
use Rattle.snapshot_list.specs.MergeStarting.{IsNextSaved, KeepsRoomFor, CanSaveNext, next_for}
use Rattle.volume.specs.Volumed.{Volumed, books_of}
use Rattle.volume.specs.Whole.{IsAttached, IsWhole}
use Rattle.volume.specs.Exact.{IsExact}
use Rattle.volume.proofs.MovedGroups.{group_moved, stores_sized}
use Rattle.volume.proofs.Good.{IsGood}
use Rattle.volume.proofs.MergeChanging.{StaysMerged, disk_stays, merged_to, loudness, merged_in, goes_here, merge_changes}
use Rattle.volume.proofs.MergeCounting.{merged_same}
use Rattle.volume.proofs.MergeOperations.{holds_merge, rooms_seen}
use Rattle.volume.proofs.MergeSaves.{regrouped, grouped_fit, saved_to, IsNextDone, next_done, saved_good}
use Rattle.volume.proofs.NextSaved.{lacking_books, lacking_live}

-- A volume whose books hold, with a merge, and pair q of it comes next: each snapshot can save what it waits for without memory.
module _ {B : Type 0} (contents : B → List ℕ) (layers : B → List Layer) (size : B → ℕ) (u : Volumed B) (holds : Holds (books_of contents layers size u)) (m : Merging B) (was : u.merge ≡ Some m) (origin : m.state.origin ≡ size u.origin)
    (attached : All (IsAttached u.copies (size u.origin)) u.snaps) where
  abbrev loud : Bool
  loud = is_loud (layers u.origin) && is_loud (layers m.device)

  pub held_in : MergeHolds (contents u.origin) u.flights (merging_books contents loud m)
  held_in = subst (λ (x : Option MergeBooks). OriginHolds (contents u.origin) u.flights x) (ap (λ (x : Option (Merging B)). (books_of contents layers size (record u { merge = x })).merge) was) holds.merge

  module _ (q : Pair) (room : HaveRoom m.state.chunk m.state.origin m.pairs q (map (room_of contents layers) u.snaps)) where
    -- the chunk of the next pair is one of the origin's
    pub next_inside : m.state.chunk * q.old < m.state.origin
    next_inside =
        let next = room.next in
        let all = held_in.text.inside in
        let long : length m.pairs ≡ length next.front + length (q ∷ next.back) = ap length next.ends ∙ length-append next.front (q ∷ next.back) in
        let within : length next.front < length m.pairs = omega (arith, long) in
        let zero : length next.front ≡ length next.front + 0 = omega arith in
        let at : get_or m.pairs (length next.front) q ≡ q = ap (λ ps. get_or ps (length next.front) q) next.ends ∙ ap (λ i. get_or (next.front ++ q ∷ next.back) i q) zero ∙ get_or-append-add next.front (q ∷ next.back) 0 q in
        let released : List Pair = (merging_books contents loud m).released in
        let found : get_or (m.pairs ++ released) (length next.front) q ≡ q = get_or_append_left m.pairs released q (length next.front) within ∙ at in
        let inside = all (length next.front) q (omega (arith, within, length-append m.pairs released)) in
        (subst (IsInside m.state.chunk m.state.origin m.state.size) found inside).old

    room_for : (k : ℕ) (d : Kept B) → k < length u.snaps → KeepsRoomFor (next_for m.state.chunk m.state.origin q (get_or u.snaps k d)) u.copies (get_or u.snaps k d)
    room_for k d lt =
        let s : Kept B = get_or u.snaps k d in
        let c : ℕ = next_for m.state.chunk m.state.origin q s in
        let is : get_or u.snaps k d ≡ get_or u.snaps k (get_or u.snaps k d) = get_or_default u.snaps k d (get_or u.snaps k d) lt in
        let in_rooms : k < length (map (room_of contents layers) u.snaps) = omega (arith, lt, length-map u.snaps (room_of contents layers)) in
        let room_is : room_of contents layers s ≡ get_or (map (room_of contents layers) u.snaps) k (room_of contents layers s) = ap (room_of contents layers) is ∙ sym (get_or-map (room_of contents layers) u.snaps k s (room_of contents layers s) lt) in
        let hold : All (SnapHolds (is_loud (layers u.origin)) (contents u.origin) u.flights) (map room_books (map (room_of contents layers) u.snaps)) = subst (All (SnapHolds (is_loud (layers u.origin)) (contents u.origin) u.flights)) (sym (rooms_seen contents layers u.snaps)) holds.snaps in
        let can = λ (e : lacks_chunk c s ≡ true). has_room m.state.chunk m.state.origin m.pairs q (map (room_of contents layers) u.snaps) room k (room_of contents layers s) in_rooms room_is (contents u.origin) u.flights hold
        (lacking_live c s e) (lacking_books contents layers c s e) in
        record {
          some = λ e. (can e).some;
          spare = λ e. (can e).spare;
          idle = λ e. (can e).idle;
          given = copies_given s.copies (All-back (λ n. n ≤ u.copies) (map number_of_mark s.marks) (map number_of_copy s.copies) (attached k d lt).numbers.given);
        }
      where
        copies_given : (ps : List ChunkCopy) → All (λ n. n ≤ u.copies) (map number_of_copy ps) → All (λ p. p.number ≤ u.copies) ps
        copies_given ps all i d lt = subst (λ n. n ≤ u.copies) (get_or-map number_of_copy ps i d 0 lt) (all i 0 (omega (arith, lt, length-map ps number_of_copy)))

    pub can_save : CanSaveNext m.state.chunk m.state.origin u.copies u.snaps q
    can_save = record {
      begins = next_inside;
      origin = λ k d lt. (attached k d lt).origin ∙ sym origin;
      room = room_for;
    }

module _ {B : Type 0} (contents : B → List ℕ) (layers : B → List Layer) (size : B → ℕ) (v : Volumed B) (h : IsWhole contents layers size v) (m : Merging B) (was : v.merge ≡ Some m) where
  abbrev sound : Bool
  sound = loudness contents layers size v m was

  abbrev rooms : List RoomSnap
  rooms = map (room_of contents layers) v.snaps

  pub room_kept : KeepBack m.state.chunk m.state.origin m.pairs (map (room_of contents layers) v.snaps)
  room_kept = (merged_in contents layers size v m was h).rooms

  pub can_save_in : (q : Pair) → HaveRoom m.state.chunk m.state.origin m.pairs q (map (room_of contents layers) v.snaps) → CanSaveNext m.state.chunk m.state.origin v.copies v.snaps q
  can_save_in q room = can_save contents layers size v h.holds m was (merged_in contents layers size v m was h).origin h.snaps q room

  -- a group is formed
  module _ (g : Option Group) (none : reading_of g ≡ []) (step : (loud : Bool) → (kept : List Pair) × FormsGroup kept (waiting_of g) (merging_due contents loud m) (merging_due contents loud (regrouped m g))) where
    abbrev before : DueMerge
    before = merging_due contents sound m

    abbrev after : DueMerge
    after = merging_due contents sound (regrouped m g)

    abbrev grouped_in : Volumed B
    grouped_in = merged_to v v.origin (regrouped m g) v.flights

    group_changed : IsMergeChange (books_of contents layers size v) (books_of contents layers size grouped_in)
    group_changed =
        let stays : StaysMerged layers size m (regrouped m g) = record { number = refl; chunk_is = refl; origin = refl; loud = refl; sized = refl } in
        let (kept, s) = step sound in
        group_change (books_of contents layers size v) (books_of contents layers size grouped_in) before after h.holds h.waits (goes_here contents layers size v m was h)
        (merge_changes contents layers size v m was v.origin (regrouped m g) stays (disk_stays layers size v.origin)) kept (waiting_of g) s refl

    pub group_room : (q : Pair) → last_of (waiting_of g) ≡ Some q → HaveRoom m.state.chunk m.state.origin m.pairs q (map (room_of contents layers) v.snaps)
    group_room q last =
        let (kept, s) = step sound in
        let seen = rooms_seen contents layers v.snaps in
        let goes : MergeSteady (map (snap_books contents layers) v.snaps) before = goes_steady (map (snap_books contents layers) v.snaps) before (goes_here contents layers size v m was h) in
        room_next (contents v.origin) v.flights (map (room_of contents layers) v.snaps) after
        (held_in contents layers size grouped_in group_changed.silent.holds (regrouped m g) refl (merged_in contents layers size v m was h).origin h.snaps)
        (steady_grouped (map room_books (map (room_of contents layers) v.snaps)) kept (waiting_of g) before after s (subst (λ (xs : List SnapBooks). MergeSteady xs before) (sym seen) goes))
        room_kept q (ap (λ ps. next_pair ps (waiting_of g)) none ∙ last)

    pub group_can_save : (q : Pair) → last_of (waiting_of g) ≡ Some q → CanSaveNext m.state.chunk m.state.origin v.copies v.snaps q
    group_can_save q last = can_save_in q (group_room q last)

    pub group_good : (faults did : B → ℕ) (ts : List (Kept B)) (n : ℕ) (gs : List Flight) → IsNextSaved contents layers m.state.chunk m.state.origin (last_of (waiting_of g)) v.snaps ts v.copies n v.flights gs
        → IsGood contents layers size faults did MergeGroup Done v (saved_to contents layers size v h m was v.origin (disk_stays layers size v.origin) g ts n gs)
    group_good faults did ts n gs saved =
        let disk = disk_stays layers size v.origin in
        let stays : StaysMerged layers size m (regrouped m g) = record { number = refl; chunk_is = refl; origin = refl; loud = refl; sized = refl } in
        let u : Volumed B = merged_to v v.origin (regrouped m g) v.flights in
        let w : Volumed B = record u { snaps = ts; copies = n; flights = gs } in
        let changes = merge_changes contents layers size v m was v.origin (regrouped m g) stays disk in
        let goes = goes_here contents layers size v m was h in
        let (kept, s) = step sound in
        let done : IsNextDone contents layers size m (last_of (waiting_of g)) u w = next_done contents layers size m u group_changed.silent.holds group_changed.waits (grouped_fit contents layers size v h m was v.origin disk g) room_kept (last_of (waiting_of g)) (λ q e. s.running) group_room ts n gs saved in
        let soon : All (IsSavedSoon m.state.chunk m.state.origin (map (snap_books contents layers) ts)) (next_pairs (reading_of g) (last_of (waiting_of g))) =
        subst (λ ps. All (IsSavedSoon m.state.chunk m.state.origin (map (snap_books contents layers) ts)) (next_pairs ps (last_of (waiting_of g)))) (sym none) done.soon in
        let start : IsMergeStart done.which (books_of contents layers size v) (books_of contents layers size w) before after =
        group_step (books_of contents layers size v) (books_of contents layers size u) before after h.holds h.waits goes changes done.which (books_of contents layers size w) done.starts soon kept (waiting_of g) s refl in
        saved_good contents layers size v h m was v.origin disk g ts n gs (last_of (waiting_of g)) done faults did MergeGroup (λ p q x. x) (λ xs ys e. e) (λ b. refl) refl start (λ c. c) refl
        (merged_same v m (regrouped m g) was v.origin v.flights faults refl refl)
        (inl (merged_same v m (regrouped m g) was v.origin v.flights did refl refl))

  -- the merge after form_group
  module _ (m' : Merging B) (first : Pair) (count : ℕ) (same : m' ≡ regrouped m (Some (formed first count))) (step : (loud : Bool) → (kept : List Pair) × FormsGroup kept (waiting_of m'.group) (merging_due contents loud m) (merging_due contents loud m')) where
    formed_step : (loud : Bool) → (kept : List Pair) × FormsGroup kept (run_at first 0 count) (merging_due contents loud m) (merging_due contents loud (regrouped m (Some (formed first count))))
    formed_step = subst (λ (x : Merging B). (loud : Bool) → (kept : List Pair) × FormsGroup kept (waiting_of x.group) (merging_due contents loud m) (merging_due contents loud x)) same step

    pub formed_can_save : (q : Pair) → last_of (waiting_of m'.group) ≡ Some q → CanSaveNext m'.state.chunk m'.state.origin v.copies v.snaps q
    formed_can_save = subst (λ (x : Merging B). (q : Pair) → last_of (waiting_of x.group) ≡ Some q → CanSaveNext x.state.chunk x.state.origin v.copies v.snaps q) (sym same) (group_can_save (Some (formed first count)) refl formed_step)

    pub formed_good : (faults did : B → ℕ) (ts : List (Kept B)) (n : ℕ) (gs : List Flight) → IsNextSaved contents layers m'.state.chunk m'.state.origin (last_of (waiting_of m'.group)) v.snaps ts v.copies n v.flights gs
        → IsGood contents layers size faults did MergeGroup Done v (record v { snaps = ts; merge = Some m'; flights = gs; copies = n })
    formed_good faults did ts n gs saved =
        subst (λ (x : Merging B). IsGood contents layers size faults did MergeGroup Done v (record v { snaps = ts; merge = Some x; flights = gs; copies = n })) (sym same)
        (group_good (Some (formed first count)) refl formed_step faults did ts n gs
        (subst (λ (x : Merging B). IsNextSaved contents layers x.state.chunk x.state.origin (last_of (waiting_of x.group)) v.snaps ts v.copies n v.flights gs) same saved))

    pub formed_exact : IsGroup m.state.filled m.pairs first count → can_group_of m ≡ true → can_group (merging_due contents true m) ≡ true → (ts : List (Kept B)) (n : ℕ) (gs : List Flight) → IsNextSaved contents layers m'.state.chunk m'.state.origin (last_of (waiting_of m'.group)) v.snaps ts v.copies n v.flights gs
        → IsExact contents layers MergeGroup Done v (record v { snaps = ts; merge = Some m'; flights = gs; copies = n })
    formed_exact i free due ts n gs saved =
        let (kept, s) = formed_step true in
        let area = ((merged_in contents layers size v m was h).goes true).area in
        subst (λ (x : Merging B). IsExact contents layers MergeGroup Done v (record v { snaps = ts; merge = Some x; flights = gs; copies = n })) (sym same)
        (record {
          step = λ loud replied. group_moved contents layers replied v m was first count i free due area kept s (holds_merge contents layers size (λ x. 0) (λ x. 0) v h m was).fits (stores_sized contents layers size v h) ts n gs
              (subst (λ (x : Merging B). IsNextSaved contents layers x.state.chunk x.state.origin (last_of (waiting_of x.group)) v.snaps ts v.copies n v.flights gs) same saved);
        })

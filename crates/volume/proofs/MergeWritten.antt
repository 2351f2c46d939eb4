-- MergeWrite: the chunk in the buffer is written to the origin disk, and the copies that the next one waits for are started.
use Rattle.std.proofs.Common.{◌≡◌, inr, ℕ, ◌+◌, ◌*◌, ◌<◌, ◌≤◌, Bool, true, List, [], ◌∷◌, Option, Some, take, map, refl, sym, ◌∙◌, ap, subst, arith}
use Rattle.std.specs.List.{All}
use Rattle.std.specs.Prelude.{◌&&◌, IsTrue}
use Rattle.sector.specs.Bytes.{next_count, with_sectors}
use Rattle.sector.specs.declared.pair.Pair.{Pair}
use Rattle.device.specs.Layers.{Layer, is_loud}
use Rattle.device.specs.declared.operation.Operation.TheVariants.{Writes}
use Rattle.plain_machine.specs.declared.event.Event.TheVariants.{MergeWrite}
use Rattle.plain_machine.specs.declared.event.Outcome.TheVariants.{Done}
use Rattle.in_flight.specs.Copies.{count_of}
use Rattle.in_flight.specs.declared.flights.Flight.{Flight}
use Rattle.store.specs.Operations.{IsOneOperation}
use Rattle.volume_laws.specs.Books.{SnapBooks, MergeBooks}
use Rattle.volume_laws.specs.MergeDue.{DueMerge, can_write, is_writable, last_of, next_pair}
use Rattle.volume_laws.specs.MergeRooms.{room_books}
use Rattle.volume_laws.specs.MergeSteps.{WritesBack}
use Rattle.volume_laws.specs.MergeWaits.{IsSavedIn, IsSavedSoon, MergeSteady, next_pairs}
use Rattle.volume_laws.specs.Merging.{MergeHolds}
use Rattle.volume_laws.specs.Published.{is_clear_over}
use Rattle.volume_laws.proofs.MergeRoomStarts.{HaveRoom, room_next}
use Rattle.volume_laws.proofs.MergeSaved.{goes_steady, steady_written}
use Rattle.volume_laws.proofs.MergeSteps.{IsMergeChange, IsMergeStart, write_change, write_step}
use Rattle.volume_laws.proofs.MergeTests.{write_test}
use Rattle.snapshot.specs.Kept.{Kept, books_of as snap_books}
use Rattle.merge.specs.Due.{full_of}
use Rattle.merge.specs.Lists.{waiting_of, reading_of}
use Rattle.merge.specs.Looks.{LooksAgree, option_pairs}
use Rattle.merge.specs.Merging.{Merging, books_of as merging_books, due_of as merging_due}
use Rattle.merge.specs.Steps.{WritesOrigin}
use Rattle.merge.specs.declared.group.Group.{Group}
use Rattle.snapshot_list.specs.Rooms.{room_of}
use Rattle.snapshot_list.specs.MergeStarting.{IsNextSaved, CanSaveNext}
use Rattle.volume.specs.Volumed.{Volumed, books_of, is_due_of, is_loud_in_all}
use Rattle.volume.specs.Whole.{IsAttached, IsWhole}
use Rattle.volume.specs.Exact.{IsExact}
use Rattle.volume.proofs.Good.{IsGood}
use Rattle.volume.proofs.Chunks.{chunks_books}
use Rattle.volume.proofs.MergeChanging.{StaysMerged, DiskStays, merged_to, loudness, merged_in, goes_here, merge_changes}
use Rattle.volume.proofs.MergeCounting.{merged_same, merged_disk, disk_within}
use Rattle.volume.proofs.MergeDues.{due_beside}
use Rattle.volume.proofs.MergeGroups.{can_save_in, held_in, room_kept}
use Rattle.volume.proofs.MergeOperations.{holds_merge, rooms_seen}
use Rattle.volume.proofs.MergeSaves.{regrouped, grouped_fit, saved_to, IsNextDone, next_done, saved_good}
use Rattle.volume.proofs.MovedGroups.{stores_sized}
use Rattle.volume.proofs.MovedWrites.{write_moved}
use Rattle.volume.proofs.Shown.{and_left, due_books, loud_books}

-- a chunk that begins on the origin ends on it, its last one short
pub count_fits : (chunk sectors old : ℕ) → chunk * old < sectors → chunk * old + count_of chunk sectors old ≤ sectors
count_fits chunk sectors old begins = omega (arith, begins)

-- the first of two lists of one pair each that are the same
only_pair : (p q : Pair) → p ∷ [] ≡ q ∷ [] → p ≡ q
only_pair p q e = cc

-- the merge after a write, by another name
pub step_from : {B : Type 0} (contents : B → List ℕ) (loud_disk : Bool) (origin origin' : List ℕ) (q : Pair) (m m' m'' : Merging B) → m' ≡ m''
    → ((loud : Bool) → (loud ≡ true → loud_disk ≡ true) → WritesBack q (merging_due contents loud m) (merging_due contents loud m') × WritesOrigin q origin origin' (merging_books contents loud m))
    → (loud : Bool) → (loud ≡ true → loud_disk ≡ true) → WritesBack q (merging_due contents loud m) (merging_due contents loud m'') × WritesOrigin q origin origin' (merging_books contents loud m)
step_from contents loud_disk origin origin' q m m' m'' same step = subst (λ (x : Merging _). (loud : Bool) → (loud ≡ true → loud_disk ≡ true) → WritesBack q (merging_due contents loud m) (merging_due contents loud x) × WritesOrigin q origin origin' (merging_books contents loud m)) same step

module _ {B : Type 0} (contents : B → List ℕ) (layers : B → List Layer) (size : B → ℕ) (v : Volumed B) (h : IsWhole contents layers size v) (m : Merging B) (was : v.merge ≡ Some m) where
  abbrev sound : Bool
  sound = loudness contents layers size v m was

  -- it is due where the look at the snapshots says so
  pub write_due : is_due_of contents layers v MergeWrite ≡ can_write (map (snap_books contents layers) v.snaps) (merging_books contents true m)
  write_due = due_beside contents layers v m was MergeWrite ∙ ap (λ xs. can_write xs (merging_books contents true m)) (due_books contents layers v.snaps)

  pub write_tested : LooksAgree contents true m → (q : Pair) → full_of m.group ≡ Some q → (b : Bool) (ss : List (Kept B)) (n count : ℕ) → ss ≡ v.snaps → n ≡ m.state.chunk → count ≡ count_of m.state.chunk m.state.origin q.old → b ≡ is_clear_over (map (snap_books contents layers) ss) (n * q.old) count
      → can_write (map (snap_books contents layers) v.snaps) (merging_books contents true m) ≡ b
  write_tested looks q full b ss n count snaps chunk counts test =
      looks.write (map (snap_books contents layers) v.snaps)
      ∙ ap (λ o. is_writable (map (snap_books contents layers) v.snaps) m.state.chunk m.state.origin (option_pairs o)) full
      ∙ sym (test ∙ ap (λ (xs : List (Kept B)). is_clear_over (map (snap_books contents layers) xs) (n * q.old) count) snaps ∙ ap (λ k. is_clear_over (map (snap_books contents layers) v.snaps) (k * q.old) count) chunk ∙ ap (is_clear_over (map (snap_books contents layers) v.snaps) (m.state.chunk * q.old)) counts)

  module _ (o' : B) (disk : DiskStays layers size v.origin o') (g : Option Group) (q : Pair) (due : can_write (map (snap_books contents layers) v.snaps) (merging_books contents true m) ≡ true)
      (step : (loud : Bool) → (loud ≡ true → is_loud (layers v.origin) ≡ true) → WritesBack q (merging_due contents loud m) (merging_due contents loud (regrouped m g)) × WritesOrigin q (contents v.origin) (contents o') (merging_books contents loud m)) where
    abbrev before : DueMerge
    before = merging_due contents sound m

    abbrev after : DueMerge
    after = merging_due contents sound (regrouped m g)

    abbrev stays : StaysMerged layers size m (regrouped m g)
    stays = record { number = refl; chunk_is = refl; origin = refl; loud = refl; sized = refl }

    stepped_as : WritesBack q (merging_due contents sound m) (merging_due contents sound (regrouped m g)) × WritesOrigin q (contents v.origin) (contents o') (merging_books contents sound m)
    stepped_as = step sound (and_left (is_loud (layers v.origin)) (is_loud (layers m.device)))

    waiting_same : waiting_of g ≡ waiting_of m.group
    waiting_same = ap (λ (x : MergeBooks). x.waiting) stepped_as.0.books

    reading_none : reading_of g ≡ []
    reading_none = ap (λ (x : MergeBooks). x.reading) stepped_as.0.books

    -- each live snapshot has published all chunks that it touches
    published : IsSavedIn m.state.chunk m.state.origin (map (snap_books contents layers) v.snaps) q
    published =
        let (p, may) = write_test (map (snap_books contents layers) v.snaps) (merging_due contents true m) ((merged_in contents layers size v m was h).goes true).staged due in
        let one : p ≡ q = only_pair p q (sym may.full ∙ stepped_as.0.full) in
        subst (λ (x : Pair). IsSavedIn m.state.chunk m.state.origin (map (snap_books contents layers) v.snaps) x) one (may.published (chunks_books contents layers size v h))

    abbrev written_in : Volumed B
    written_in = merged_to v o' (regrouped m g) v.flights

    write_changed : IsMergeChange (books_of contents layers size v) (books_of contents layers size written_in)
    write_changed = write_change (books_of contents layers size v) (books_of contents layers size written_in) before after h.holds h.waits (goes_here contents layers size v m was h)
        (merge_changes contents layers size v m was o' (regrouped m g) stays disk) q stepped_as.0 stepped_as.1.disk stepped_as.1.written published

    pub write_room : (p : Pair) → last_of (waiting_of g) ≡ Some p → HaveRoom m.state.chunk m.state.origin m.pairs p (map (room_of contents layers) v.snaps)
    write_room p last =
        let seen = rooms_seen contents layers v.snaps in
        let sectors : size v.origin ≡ size o' = sym disk.sectors in
        let goes : MergeSteady (map (snap_books contents layers) v.snaps) before = goes_steady (map (snap_books contents layers) v.snaps) before (goes_here contents layers size v m was h) in
        room_next (contents o') v.flights (map (room_of contents layers) v.snaps) after
        (subst (λ b. MergeHolds (contents o') v.flights (merging_books contents b (regrouped m g))) (ap (λ b. b && is_loud (layers m.device)) disk.loud)
        (held_in contents layers size written_in write_changed.silent.holds (regrouped m g) refl ((merged_in contents layers size v m was h).origin ∙ sectors) (subst (λ n. All (IsAttached v.copies n) v.snaps) sectors h.snaps)))
        (steady_written (map room_books (map (room_of contents layers) v.snaps)) q before after stepped_as.0 (subst (λ (xs : List SnapBooks). MergeSteady xs before) (sym seen) goes)
        (subst (λ (xs : List SnapBooks). IsSavedIn m.state.chunk m.state.origin xs q) (sym seen) published))
        (room_kept contents layers size v h m was) p (ap (λ ps. next_pair ps (waiting_of g)) reading_none ∙ last)

    pub write_can_save : (p : Pair) → last_of (waiting_of g) ≡ Some p → CanSaveNext m.state.chunk m.state.origin v.copies v.snaps p
    write_can_save p last = can_save_in contents layers size v h m was p (write_room p last)

    pub write_good : (faults did : B → ℕ) → faults o' ≡ faults v.origin → did o' ≡ next_count (did v.origin) → (ts : List (Kept B)) (n : ℕ) (gs : List Flight) → IsNextSaved contents layers m.state.chunk m.state.origin (last_of (waiting_of g)) v.snaps ts v.copies n v.flights gs
        → IsGood contents layers size faults did MergeWrite Done v (saved_to contents layers size v h m was o' disk g ts n gs)
    write_good faults did calm counts ts n gs saved =
        let u : Volumed B = merged_to v o' (regrouped m g) v.flights in
        let w : Volumed B = record u { snaps = ts; copies = n; flights = gs } in
        let changes = merge_changes contents layers size v m was o' (regrouped m g) stays disk in
        let goes = goes_here contents layers size v m was h in
        let s = stepped_as in
        let done : IsNextDone contents layers size m (last_of (waiting_of g)) u w =
        next_done contents layers size m u write_changed.silent.holds write_changed.waits (grouped_fit contents layers size v h m was o' disk g) (room_kept contents layers size v h m was) (last_of (waiting_of g)) (λ p e. s.0.running) write_room ts n gs saved in
        let soon : All (IsSavedSoon m.state.chunk m.state.origin (map (snap_books contents layers) ts)) (next_pairs (reading_of g) (last_of (waiting_of g))) =
        subst (λ ps. All (IsSavedSoon m.state.chunk m.state.origin (map (snap_books contents layers) ts)) (next_pairs ps (last_of (waiting_of g)))) (sym reading_none) done.soon in
        let start : IsMergeStart done.which (books_of contents layers size v) (books_of contents layers size w) before after =
        write_step (books_of contents layers size v) (books_of contents layers size u) before after h.holds h.waits goes changes done.which (books_of contents layers size w) done.starts soon q s.0 s.1.disk s.1.written published in
        saved_good contents layers size v h m was o' disk g ts n gs (last_of (waiting_of g)) done faults did MergeWrite (λ p r x. x) (λ xs ys e. e) (λ b. refl) refl start (λ c. c) refl
        (merged_same v m (regrouped m g) was o' v.flights faults calm refl)
        (inr (0, disk_within v m (regrouped m g) was o' v.flights did, merged_disk v m (regrouped m g) was o' v.flights did counts refl))

    pub write_exact : full_of m.group ≡ Some q → (faults faults' counts counts' : ℕ) → IsOneOperation (Writes (m.state.chunk * q.old) (count_of m.state.chunk m.state.origin q.old)) true (layers v.origin) (layers o') faults faults' counts counts'
        → (IsTrue (is_loud (layers v.origin)) → contents o' ≡ with_sectors (contents v.origin) (m.state.chunk * q.old) (take (512 * count_of m.state.chunk m.state.origin q.old) m.buffer))
        → (ts : List (Kept B)) (n : ℕ) (gs : List Flight) → IsNextSaved contents layers m.state.chunk m.state.origin (last_of (waiting_of g)) v.snaps ts v.copies n v.flights gs
        → IsExact contents layers MergeWrite Done v (record v { origin = o'; snaps = ts; merge = Some (regrouped m g); flights = gs; copies = n })
    write_exact full faults faults' counts counts' one wrote ts n gs saved = record {
      step = λ loud replied.
          (let s = (step true (λ _. disk_loud loud)).0 in
          let sized = (holds_merge contents layers size (λ x. 0) (λ x. 0) v h m was).fits in
          write_moved contents layers replied v m was faults faults' counts counts' q full due sized o' g s one (wrote (disk_loud loud)) ((step true (λ _. disk_loud loud)).1.disk.len ∙ sized) (stores_sized contents layers size v h) ts n gs
          (subst (λ (ps : List Pair). IsNextSaved contents layers m.state.chunk m.state.origin (last_of ps) v.snaps ts v.copies n v.flights gs) waiting_same saved));
    }
      where
        disk_loud : is_loud_in_all layers v ≡ true → is_loud (layers v.origin) ≡ true
        disk_loud loud = (loud_books contents layers size v loud).origin

    -- the merge after write_chunk
    module _ (m' : Merging B) (same : m' ≡ regrouped m g) where
      pub written_can_save : (p : Pair) → last_of (waiting_of m'.group) ≡ Some p → CanSaveNext m'.state.chunk m'.state.origin v.copies v.snaps p
      written_can_save = subst (λ (x : Merging B). (p : Pair) → last_of (waiting_of x.group) ≡ Some p → CanSaveNext x.state.chunk x.state.origin v.copies v.snaps p) (sym same) write_can_save

      saved_as : (ts : List (Kept B)) (n : ℕ) (gs : List Flight) → IsNextSaved contents layers m'.state.chunk m'.state.origin (last_of (waiting_of m'.group)) v.snaps ts v.copies n v.flights gs → IsNextSaved contents layers m.state.chunk m.state.origin (last_of (waiting_of g)) v.snaps ts v.copies n v.flights gs
      saved_as ts n gs saved = subst (λ (x : Merging B). IsNextSaved contents layers x.state.chunk x.state.origin (last_of (waiting_of x.group)) v.snaps ts v.copies n v.flights gs) same saved

      pub written_good : (faults did : B → ℕ) → faults o' ≡ faults v.origin → did o' ≡ next_count (did v.origin) → (ts : List (Kept B)) (n : ℕ) (gs : List Flight) → IsNextSaved contents layers m'.state.chunk m'.state.origin (last_of (waiting_of m'.group)) v.snaps ts v.copies n v.flights gs
          → IsGood contents layers size faults did MergeWrite Done v (record v { origin = o'; snaps = ts; merge = Some m'; flights = gs; copies = n })
      written_good faults did calm counts ts n gs saved =
          subst (λ (x : Merging B). IsGood contents layers size faults did MergeWrite Done v (record v { origin = o'; snaps = ts; merge = Some x; flights = gs; copies = n })) (sym same) (write_good faults did calm counts ts n gs (saved_as ts n gs saved))

      pub written_exact : full_of m.group ≡ Some q → (faults faults' counts counts' : ℕ) → IsOneOperation (Writes (m.state.chunk * q.old) (count_of m.state.chunk m.state.origin q.old)) true (layers v.origin) (layers o') faults faults' counts counts'
          → (IsTrue (is_loud (layers v.origin)) → contents o' ≡ with_sectors (contents v.origin) (m.state.chunk * q.old) (take (512 * count_of m.state.chunk m.state.origin q.old) m.buffer))
          → (ts : List (Kept B)) (n : ℕ) (gs : List Flight) → IsNextSaved contents layers m'.state.chunk m'.state.origin (last_of (waiting_of m'.group)) v.snaps ts v.copies n v.flights gs
          → IsExact contents layers MergeWrite Done v (record v { origin = o'; snaps = ts; merge = Some m'; flights = gs; copies = n })
      written_exact full faults faults' counts counts' one wrote ts n gs saved =
          subst (λ (x : Merging B). IsExact contents layers MergeWrite Done v (record v { origin = o'; snaps = ts; merge = Some x; flights = gs; copies = n })) (sym same) (write_exact full faults faults' counts counts' one wrote ts n gs (saved_as ts n gs saved))

-- Each handler's calls make its event exact: the facts of a volume that is whole, with what the calls promise.
use Rattle.std.proofs.Common.{◌≡◌, ℕ, zero, suc, ◌+◌, ◌*◌, ◌<◌, ◌≤◌, Bool, true, false, List, [], ◌∷◌, ◌++◌, Option, Some, length, get_or, set, map, take, drop, replicate, refl, sym, ◌∙◌, ap, subst, arith}
use Rattle.std.specs.Prelude.{◌==◌, ◌&&◌, not}
use Rattle.std.specs.List.{list_all, position, remove}
use Rattle.std.proofs.lemmas.Bool.{eqb-true, false≢true}
use Rattle.std.proofs.lemmas.List.{length-map, get_or-map}
use Rattle.sector.specs.Bytes.{with_part, with_sectors}
use Rattle.device.specs.Layers.{Layer, is_loud}
use Rattle.device.specs.declared.operation.Operation.TheVariants.{Reads, Writes, Flushes}
use Rattle.cow_header.specs.HeaderText.{header_bytes}
use Rattle.cow_format.specs.Places.{area_place}
use Rattle.cow_format.specs.NextPlace.{LacksArea}
use Rattle.plain_machine.specs.declared.event.Event.TheVariants.{CopyRead, CopyWrite, FlushStore, ZeroNext, WriteArea, Publish, WriteInvalid}
use Rattle.plain_machine.specs.declared.event.Outcome.TheVariants.{Done, Fault}
use Rattle.plain_machine.specs.declared.request.Reply.{Reply}
use Rattle.in_flight.specs.Copies.{count_of, pair_of}
use Rattle.in_flight.specs.Due.{front_ready}
use Rattle.in_flight.specs.Flushed.{flushed_copy, safe_mark}
use Rattle.in_flight.specs.Routes.{refused_of}
use Rattle.in_flight.specs.declared.copies.ChunkCopy.{ChunkCopy}
use Rattle.in_flight.specs.declared.copies.Mark.{Mark}
use Rattle.in_flight.specs.declared.copies.Stage.TheVariants.{Waiting, Read}
use Rattle.in_flight.specs.declared.flights.Flight.{Flight}
use Rattle.store.specs.Operations.{IsOneOperation}
use Rattle.store.specs.Slots.{pairs_bytes, slot_start}
use Rattle.store.specs.Stored.{after_commit}
use Rattle.volume_laws.specs.Again.{again_of, placed_of}
use Rattle.volume_laws.specs.Held.{LiveHolds, SnapHolds}
use Rattle.volume_laws.specs.Published.{is_clear as is_clear_in}
use Rattle.volume_laws.specs.Steps.{mark_of}
use Rattle.event_machine.specs.Seen.{going_of}
use Rattle.event_machine.specs.Stepping.{first_that, publishes, stepped}
use Rattle.snapshot.specs.Kept.{Kept, books_of as snap_books, batch_of, needs_area, waits_area, spare_after, unpublished}
use Rattle.snapshot.specs.Calls.{ReadsAt, StaysAt, WritesAt}
use Rattle.snapshot_list.specs.Rooms.{merge_books}
use Rattle.volume.specs.Volumed.{Volumed, is_loud_in_all}
use Rattle.volume.specs.Whole.{IsWhole, IsCounted}
use Rattle.snapshot_list.specs.Finding.{is_copy_of, is_flushing, is_mark_of, is_trying, waits_for_flush, is_committing, is_zeroing}
use Rattle.volume.specs.Exact.{IsExact}
use Rattle.volume.specs.Moved.{held_of, moving_of}
use Rattle.volume.proofs.MovedLists.{IsFirst, first_is, first_position}
use Rattle.volume.proofs.MovedDue.{front_lives}
use Rattle.volume.proofs.MovedSnaps.{changed, spoilt}
use Rattle.volume.proofs.MovedFound.{snap_first, copy_first, mark_first, mark_number}
use Rattle.volume.proofs.MovedCopies.{copy_read_done, copy_read_fault, copy_write_done, copy_write_fault}
use Rattle.volume.proofs.MovedStores.{write_area_done, write_area_fault, zero_next_done, zero_next_fault, zero_next_lacks}
use Rattle.volume.proofs.MovedMarks.{flush_mark_is, flush_store_done, flush_store_fault, write_invalid_done, write_invalid_fault, publish_is, publishes_first}
use Rattle.volume.proofs.Shown.{loud_others}

and_left : (a b : Bool) → (a && b) ≡ true → a ≡ true
and_left true b e = refl
and_left false b e = absurd (false≢true e)

and_right : (a b : Bool) → (a && b) ≡ true → b ≡ true
and_right true b e = e
and_right false b e = absurd (false≢true e)

not_true : (b : Bool) → not b ≡ true → b ≡ false
not_true true e = absurd (false≢true e)
not_true false e = refl

all_at : {X : Type 0} (test : X → Bool) (xs : List X) (k : ℕ) (x : X) → list_all test xs ≡ true → k < length xs → x ≡ get_or xs k x → test x ≡ true
all_at test [] k x all within is = absurd (omega (arith, within))
all_at test (y ∷ ys) zero x all within is = ap test is ∙ and_left (test y) (list_all test ys) all
all_at test (y ∷ ys) (suc k) x all within is = all_at test ys k x (and_right (test y) (list_all test ys) all) (omega (arith, within)) is

module _ {B : Type 0} (contents : B → List ℕ) (layers : B → List Layer) (size : B → ℕ) (v : Volumed B) (h : IsWhole contents layers size v) where
  pub loud_origin : is_loud_in_all layers v ≡ true → is_loud (layers v.origin) ≡ true
  loud_origin loud = and_left (is_loud (layers v.origin)) (list_all (λ (x : Kept B). is_loud (layers x.device)) v.snaps) (loud_others contents layers size v loud)

  module _ (n k : ℕ) (s : Kept B) (within : k < length v.snaps) (is : s ≡ get_or v.snaps k s) where
    pub loud_store : is_loud_in_all layers v ≡ true → is_loud (layers s.device) ≡ true
    loud_store loud = all_at (λ (x : Kept B). is_loud (layers x.device)) v.snaps k s (and_right (is_loud (layers v.origin)) (list_all (λ (x : Kept B). is_loud (layers x.device)) v.snaps) (loud_others contents layers size v loud)) within is

    pub counts : IsCounted s
    counts = subst IsCounted (sym is) (h.counted k s within)

    pub sectors : length (contents v.origin) ≡ 512 * s.state.origin
    sectors =
        let at : s.state.origin ≡ size v.origin = ap (λ (x : Kept B). x.state.origin) is ∙ (h.snaps k s within).origin in
        h.holds.whole ∙ ap (λ x. 512 * x) (sym at)

    pub holds_live : s.live ≡ true → LiveHolds (is_loud (layers v.origin)) (contents v.origin) v.flights (snap_books contents layers s)
    holds_live live =
        let sb = snap_books contents layers in
        let at : get_or (map sb v.snaps) k (sb s) ≡ sb s = get_or-map sb v.snaps k s (sb s) within ∙ ap sb (sym is) in
        (subst (SnapHolds (is_loud (layers v.origin)) (contents v.origin) v.flights) at (h.holds.snaps k (sb s) (omega (arith, within, length-map v.snaps sb)))).alive live

    module _ (faults faults' done done' : ℕ) where
      -- CopyRead
      pub read_exact : (o' : B) (s' : Kept B) (j : ℕ) (p q : ChunkCopy) → position (is_copy_of Waiting n) s.copies ≡ Some j → ReadsAt contents layers (contents v.origin) j p q s s'
          → IsOneOperation (Reads (s.state.chunk * p.pair.old) (count_of s.state.chunk s.state.origin p.pair.old)) true (layers v.origin) (layers o') faults faults' done done' → contents o' ≡ contents v.origin
          → IsExact contents layers (CopyRead n) Done v (changed v o' k s' v.flights)
      read_exact o' s' j p q found e one same = record {
        step = λ loud replied. copy_read_done contents layers replied v n k j s p (copy_first contents layers size v h n k s within is Waiting j found) (first_position (is_copy_of Waiting n) j p s.copies e.event.copy.was found)
            sectors faults faults' done done' o' same q s' one e.copy e.fields;
      }

      pub read_fault_exact : (o' : B) (s1 s' : Kept B) (j : ℕ) (p q : ChunkCopy) → position (is_copy_of Waiting n) s.copies ≡ Some j → StaysAt j p q s s1 → s' ≡ spoilt s1
          → IsOneOperation (Reads (s.state.chunk * p.pair.old) (count_of s.state.chunk s.state.origin p.pair.old)) false (layers v.origin) (layers o') faults faults' done done' → contents o' ≡ contents v.origin
          → IsExact contents layers (CopyRead n) Fault v (changed v o' k s' (map (refused_of (s.number ∷ [])) v.flights))
      read_fault_exact o' s1 s' j p q found e gone one same = record {
        step = λ loud replied. copy_read_fault contents layers replied v n k j s p (copy_first contents layers size v h n k s within is Waiting j found) (first_position (is_copy_of Waiting n) j p s.copies e.was found)
            sectors faults faults' done done' o' same q s1 s' one e.fields gone;
      }

      -- CopyWrite
      pub write_exact : (s' : Kept B) (j : ℕ) (p q : ChunkCopy) → position (is_copy_of Read n) s.copies ≡ Some j → WritesAt contents layers j p q s s'
          → IsOneOperation (Writes (s.state.chunk * p.pair.new) (count_of s.state.chunk s.state.origin p.pair.old)) true (layers s.device) (layers s'.device) faults faults' done done'
          → IsExact contents layers (CopyWrite n) Done v (changed v v.origin k s' v.flights)
      write_exact s' j p q found e one = record {
        step = λ loud replied. copy_write_done contents layers replied v n k j s p (copy_first contents layers size v h n k s within is Read j found) (first_position (is_copy_of Read n) j p s.copies e.event.copy.was found) e.event.was_read
            sectors faults faults' done done' s'.device q s' one (e.event.written (loud_store loud)) e.copy e.fields;
      }

      pub write_fault_exact : (s1 s' : Kept B) (j : ℕ) (p : ChunkCopy) → position (is_copy_of Read n) s.copies ≡ Some j → p ≡ get_or s.copies j p → p.stage ≡ Read → s1 ≡ record s { device = s1.device } → s' ≡ spoilt s1
          → IsOneOperation (Writes (s.state.chunk * p.pair.new) (count_of s.state.chunk s.state.origin p.pair.old)) false (layers s.device) (layers s1.device) faults faults' done done' → contents s1.device ≡ contents s.device
          → IsExact contents layers (CopyWrite n) Fault v (changed v v.origin k s' (map (refused_of (s.number ∷ [])) v.flights))
      write_fault_exact s1 s' j p found at read kept gone one same = record {
        step = λ loud replied. copy_write_fault contents layers replied v n k j s p (copy_first contents layers size v h n k s within is Read j found) (first_position (is_copy_of Read n) j p s.copies at found) read
            sectors faults faults' done done' s1.device s1 s' one same kept gone;
      }

      -- ZeroNext
      zeroing_told : (x : Kept B) → is_zeroing n x ≡ true → x.number ≡ n
      zeroing_told x e = eqb-true x.number n (and_left (x.number == n) (front_ready x.copies && needs_area x.state x.copies) e)

      module _ (found : is_zeroing n s ≡ true) where
        zeroing_first : IsFirst (is_zeroing n) k s v.snaps
        zeroing_first = snap_first contents layers size v h n k s within is (is_zeroing n) zeroing_told found

        pub zeroing_live : s.live ≡ true
        zeroing_live = front_lives contents layers s counts (and_left (front_ready s.copies) (needs_area s.state s.copies) (and_right (s.number == n) (front_ready s.copies && needs_area s.state s.copies) found))

        zeroing_sized : length (contents s.device) ≡ 512 * s.state.size
        zeroing_sized = (holds_live zeroing_live).text.whole

        pub zero_exact : (s' : Kept B) → s.state.chunk * (area_place s.state.chunk (s.state.current + 1) + 1) ≤ s.state.size
            → IsOneOperation (Writes (s.state.chunk * area_place s.state.chunk (s.state.current + 1)) s.state.chunk) true (layers s.device) (layers s'.device) faults faults' done done'
            → (is_loud (layers s.device) ≡ true → contents s'.device ≡ with_sectors (contents s.device) (s.state.chunk * area_place s.state.chunk (s.state.current + 1)) (replicate (512 * s.state.chunk) 0))
            → s' ≡ record s { device = s'.device; state = record s.state { zeroed = true; firm = false } } → IsExact contents layers (ZeroNext n) Done v (changed v v.origin k s' v.flights)
        zero_exact s' inside one written fields = record {
          step = λ loud replied. zero_next_done contents layers replied v h.counted n k s zeroing_first counts zeroing_live zeroing_sized faults faults' done done' s'.device s' inside one (written (loud_store loud)) fields;
        }

        pub zero_fault_exact : (s1 s' : Kept B) → s.state.chunk * (area_place s.state.chunk (s.state.current + 1) + 1) ≤ s.state.size
            → IsOneOperation (Writes (s.state.chunk * area_place s.state.chunk (s.state.current + 1)) s.state.chunk) false (layers s.device) (layers s1.device) faults faults' done done'
            → contents s1.device ≡ contents s.device → s1 ≡ record s { device = s1.device } → s' ≡ spoilt s1 → IsExact contents layers (ZeroNext n) Fault v (changed v v.origin k s' (map (refused_of (s.number ∷ [])) v.flights))
        zero_fault_exact s1 s' inside one same kept gone = record {
          step = λ loud replied. zero_next_fault contents layers replied v h.counted n k s zeroing_first counts zeroing_live zeroing_sized faults faults' done done' s1.device s1 s' inside one same kept gone;
        }

        pub zero_lacks_exact : (s' : Kept B) → LacksArea s.state.chunk s.state.size (s.state.current + 1) → s' ≡ spoilt s → IsExact contents layers (ZeroNext n) Done v (changed v v.origin k s' (map (refused_of (s.number ∷ [])) v.flights))
        zero_lacks_exact s' short gone = record {
          step = λ loud replied. zero_next_lacks contents layers replied v h.counted n k s zeroing_first counts zeroing_live zeroing_sized faults faults' done done' s.device s' short gone;
        }

      -- WriteArea
      committing_told : (x : Kept B) → is_committing n x ≡ true → x.number ≡ n
      committing_told x e = eqb-true x.number n (and_left (x.number == n) (front_ready x.copies && not (waits_area x.state x.copies)) e)

      module _ (found : is_committing n s ≡ true) where
        committing_first : IsFirst (is_committing n) k s v.snaps
        committing_first = snap_first contents layers size v h n k s within is (is_committing n) committing_told found

        front : front_ready s.copies ≡ true
        front = and_left (front_ready s.copies) (not (waits_area s.state s.copies)) (and_right (s.number == n) (front_ready s.copies && not (waits_area s.state s.copies)) found)

        pub committing_live : s.live ≡ true
        committing_live = front_lives contents layers s counts front

        agree : s.begun ≡ map pair_of s.copies
        agree = (holds_live committing_live).agree

        module _ (count : ℕ) (batched : count ≡ batch_of s.state s.copies) where
          pub area_exact : (s' : Kept B) → IsOneOperation (Writes (s.state.chunk * area_place s.state.chunk s.state.current) s.state.chunk) true (layers s.device) (layers s'.device) faults faults' done done'
              → (is_loud (layers s.device) ≡ true → contents s'.device ≡ with_part (contents s.device) (slot_start s.state.chunk s.state.current s.state.filled) (pairs_bytes (take count s.begun)))
              → s' ≡ record s { device = s'.device; state = after_commit s.state count; pairs = s.pairs ++ take count s.begun; begun = drop count s.begun; copies = drop count s.copies; marks = s.marks ++ map mark_of (take count s.copies); spare = spare_after count s }
              → IsExact contents layers (WriteArea n) Done v (changed v v.origin k s' v.flights)
          area_exact s' one written fields = record {
            step = λ loud replied. write_area_done contents layers replied v h.counted n k s committing_first counts committing_live count batched agree faults faults' done done' s'.device s' one (written (loud_store loud)) fields;
          }

          pub area_fault_exact : (s1 s' : Kept B) → IsOneOperation (Writes (s.state.chunk * area_place s.state.chunk s.state.current) s.state.chunk) false (layers s.device) (layers s1.device) faults faults' done done'
              → contents s1.device ≡ contents s.device → s1 ≡ record s { device = s1.device } → s' ≡ spoilt s1 → IsExact contents layers (WriteArea n) Fault v (changed v v.origin k s' (map (refused_of (s.number ∷ [])) v.flights))
          area_fault_exact s1 s' one same kept gone = record {
            step = λ loud replied. write_area_fault contents layers replied v h.counted n k s committing_first counts committing_live count batched agree faults faults' done done' s1.device s1 s' one same kept gone;
          }

      -- WriteInvalid
      module _ (found : is_trying n s ≡ true) where
        trying_first : IsFirst (is_trying n) k s v.snaps
        trying_first = snap_first contents layers size v h n k s within is (is_trying n) (λ x e. eqb-true x.number n (and_left (x.number == n) (x.untried && not x.marked) e)) found

        pub marked_exact : (s' : Kept B) → IsOneOperation (Writes 0 s.state.chunk) true (layers s.device) (layers s'.device) faults faults' done done'
            → (is_loud (layers s.device) ≡ true → contents s'.device ≡ with_sectors (contents s.device) 0 (header_bytes (512 * s.state.chunk) false s.state.chunk)) → s' ≡ record s { device = s'.device; marked = true; state = record s.state { valid = false } }
            → IsExact contents layers (WriteInvalid n) Done v (changed v v.origin k s' v.flights)
        marked_exact s' one written fields = record {
          step = λ loud replied. write_invalid_done contents layers replied v n k s trying_first s' faults faults' done done' s'.device one (written (loud_store loud)) fields;
        }

        pub marked_fault_exact : (s' : Kept B) (flights : List Flight) → IsOneOperation (Writes 0 s.state.chunk) false (layers s.device) (layers s'.device) faults faults' done done'
            → contents s'.device ≡ contents s.device → s' ≡ record s { device = s'.device; untried = false; stale = true }
            → flights ≡ map (again_of (merge_books contents layers true v.merge) (is_clear_in (map (snap_books contents layers) (set v.snaps k s')))) v.flights → IsExact contents layers (WriteInvalid n) Fault v (changed v v.origin k s' flights)
        marked_fault_exact s' flights one same fields routed = record {
          step = λ loud replied. write_invalid_fault contents layers replied v n k s trying_first s' faults faults' done done' s'.device flights one same fields routed;
        }

      -- FlushStore
      module _ (found : is_flushing n s ≡ true) where
        flushing_first : IsFirst (is_flushing n) k s v.snaps
        flushing_first = snap_first contents layers size v h n k s within is (is_flushing n) (λ x e. eqb-true x.number n (and_left (x.number == n) (waits_for_flush x) e)) found

        pub flush_exact : (s' : Kept B) → s.marked ≡ false → IsOneOperation Flushes true (layers s.device) (layers s'.device) faults faults' done done' → contents s'.device ≡ contents s.device
            → s' ≡ record s { device = s'.device; state = record s.state { firm = s.state.zeroed; sure = length s.pairs }; copies = map flushed_copy s.copies; marks = map safe_mark s.marks } → IsExact contents layers (FlushStore n) Done v (changed v v.origin k s' v.flights)
        flush_exact s' unmarked one same fields = record {
          step = λ loud replied. flush_store_done contents layers replied v n k s h.counted flushing_first faults faults' done done' s'.device same s' unmarked one fields;
        }

        pub flush_fault_exact : (s1 s' : Kept B) → s.marked ≡ false → IsOneOperation Flushes false (layers s.device) (layers s1.device) faults faults' done done' → contents s1.device ≡ contents s.device
            → s1 ≡ record s { device = s1.device } → s' ≡ spoilt s1 → IsExact contents layers (FlushStore n) Fault v (changed v v.origin k s' (map (refused_of (s.number ∷ [])) v.flights))
        flush_fault_exact s1 s' unmarked one same kept gone = record {
          step = λ loud replied. flush_store_fault contents layers replied v n k s h.counted flushing_first faults faults' done done' s1.device same s1 s' unmarked one kept gone;
        }

        tried_by : (ok : Bool) (s' : Kept B) (flights : List Flight) → s.marked ≡ true → IsOneOperation Flushes ok (layers s.device) (layers s'.device) faults faults' done done' → contents s'.device ≡ contents s.device
            → s' ≡ record s { device = s'.device; untried = false; stale = not ok }
            → flights ≡ map (again_of (merge_books contents layers true v.merge) (is_clear_in (map (snap_books contents layers) (set v.snaps k s')))) v.flights
            → (replied : Option Reply) → stepped (FlushStore n) (moving_of contents layers replied v) ≡ moving_of contents layers replied (changed v v.origin k s' flights)
        tried_by ok s' flights marked one same fields routed replied = flush_mark_is contents layers replied v n k s h.counted flushing_first faults faults' done done' s'.device same ok s' flights marked one fields routed

        pub tried_exact : (s' : Kept B) (flights : List Flight) → s.marked ≡ true → IsOneOperation Flushes true (layers s.device) (layers s'.device) faults faults' done done' → contents s'.device ≡ contents s.device
            → s' ≡ record s { device = s'.device; untried = false; stale = false }
            → flights ≡ map (again_of (merge_books contents layers true v.merge) (is_clear_in (map (snap_books contents layers) (set v.snaps k s')))) v.flights → IsExact contents layers (FlushStore n) Done v (changed v v.origin k s' flights)
        tried_exact s' flights marked one same fields routed = record { step = λ loud replied. tried_by true s' flights marked one same fields routed replied }

        pub tried_fault_exact : (s' : Kept B) (flights : List Flight) → s.marked ≡ true → IsOneOperation Flushes false (layers s.device) (layers s'.device) faults faults' done done' → contents s'.device ≡ contents s.device
            → s' ≡ record s { device = s'.device; untried = false; stale = true }
            → flights ≡ map (again_of (merge_books contents layers true v.merge) (is_clear_in (map (snap_books contents layers) (set v.snaps k s')))) v.flights → IsExact contents layers (FlushStore n) Fault v (changed v v.origin k s' flights)
        tried_fault_exact s' flights marked one same fields routed = record { step = λ loud replied. tried_by false s' flights marked one same fields routed replied }

    -- Publish, before the copies are started that a merge waits for
    pub publish_stepped : (s' : Kept B) (j : ℕ) (m : Mark) (flights : List Flight) → position (is_mark_of s v.flights n) s.marks ≡ Some j → m ≡ get_or s.marks j m → s' ≡ record s { marks = remove s.marks j; merging = unpublished m.number s.merging }
        → flights ≡ map (again_of (merge_books contents layers true v.merge) (is_clear_in (map (snap_books contents layers) (set v.snaps k s')))) (map (placed_of (snap_books contents layers s')) v.flights)
        → (replied : Option Reply) → stepped (Publish n) (moving_of contents layers replied v) ≡ moving_of contents layers replied (changed v v.origin k s' flights)
    publish_stepped s' j m flights found at fields routed replied =
        publish_is contents layers replied v n k s (mark_first contents layers size v h n k s within is j found) j m (mark_number contents layers size v h n k s within is j m found at) s' flights fields routed

    pub publish_found : (j : ℕ) (replied : Option Reply) → position (is_mark_of s v.flights n) s.marks ≡ Some j → first_that (publishes (map going_of v.flights) n) (map (held_of contents layers) v.snaps) ≡ Some (held_of contents layers s)
    publish_found j replied found =
        first_is (held_of contents layers) (publishes (map going_of v.flights) n) k s v.snaps (publishes_first contents layers replied v n k s (mark_first contents layers size v h n k s within is j found))

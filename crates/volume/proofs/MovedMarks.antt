-- The events of a mark: a copy is published, a spoiled snapshot's header is marked invalid, and its store is flushed after
-- that. Where a mark is taken away or tried, held writes are routed again.
use Rattle.std.proofs.Common.{◌≡◌, ℕ, ◌*◌, Bool, false, true, List, [], ◌∷◌, Option, None, Some, get_or, set, map, length, refl, sym, ◌∙◌, ap}
use Rattle.std.specs.Prelude.{◌==◌, ◌&&◌, ◌||◌, not, if◌then◌else◌}
use Rattle.std.specs.List.{All, list_any, list_all, remove}
use Rattle.sector.specs.Bytes.{with_sectors}
use Rattle.device.specs.Layers.{Layer}
use Rattle.device.specs.declared.operation.Operation.{Operation}
use Rattle.device.specs.declared.operation.Operation.TheVariants.{Writes, Flushes}
use Rattle.cow_header.specs.HeaderText.{header_bytes}
use Rattle.plain_machine.specs.declared.event.Event.TheVariants.{FlushStore, Publish, WriteInvalid}
use Rattle.plain_machine.specs.declared.request.Reply.{Reply}
use Rattle.in_flight.specs.Kinds.{kind_of}
use Rattle.in_flight.specs.Due.{is_stage}
use Rattle.in_flight.specs.Flushed.{flushed_copy, flushed_stage, safe_mark}
use Rattle.in_flight.specs.Routes.{again_route_of, refused_of, write_route_of}
use Rattle.in_flight.specs.declared.copies.ChunkCopy.{ChunkCopy}
use Rattle.in_flight.specs.declared.copies.Stage.{Stage}
use Rattle.in_flight.specs.declared.copies.Stage.TheVariants.{Waiting, Read, Written, Flushed}
use Rattle.in_flight.specs.declared.copies.Mark.{Mark}
use Rattle.in_flight.specs.declared.flights.Flight.{Flight}
use Rattle.in_flight.specs.declared.flights.Route.{Route}
use Rattle.store.specs.Operations.{IsOneOperation}
use Rattle.volume_laws.specs.Again.{again_of, new_route, placed_of}
use Rattle.volume_laws.specs.Books.{SnapBooks}
use Rattle.volume_laws.specs.Published.{is_clear as is_clear_in, is_clear_over as is_clear_over_in, is_saved as is_saved_in, is_saved_over as is_saved_over_in}
use Rattle.whole_commands.specs.Saves.{marked}
use Rattle.whole_commands.specs.Devices.{Device, answers, met, written_by}
use Rattle.event_machine.specs.Held.{SnapHeld, Going, MergeHeld, Moving, Copying, is_untried, flushed_copying, flushed_held, spoiled, with_store}
use Rattle.event_machine.specs.Due.{can_flush_store, can_mark, is_publishable}
use Rattle.event_machine.specs.Again.{is_saved, is_saved_over, is_clear, is_clear_over, is_grouped, merged_place, write_route, again, placed, rerouted}
use Rattle.event_machine.specs.Stepping.{with_first, without_first, publish, publishes, flush_store, mark_invalid, put, spoil, stepped}
use Rattle.event_machine.specs.Seen.{copying_of, going_of}
use Rattle.event_machine.specs.MergeSeen.{MergeSeen, merge_held_of, held_in, books_in}
use Rattle.event_machine.proofs.Tied.{seen_alike}
use Rattle.merge.specs.Merging.{Merging}
use Rattle.snapshot_list.specs.Rooms.{merge_books}
use Rattle.snapshot.specs.Kept.{Kept, books_of as snap_books, unpublished}
use Rattle.volume.specs.Volumed.{Volumed}
use Rattle.snapshot_list.specs.Finding.{is_flushing, is_trying, is_mark_of, has_mark_at}
use Rattle.volume.specs.Whole.{IsCounted}
use Rattle.volume.specs.Moved.{device_of, held_of, merge_seen, moving_of}
use Rattle.volume.proofs.MovedLists.{IsFirst, first_by_all, first_by_test, if_true, if_false, with_is, without_is}
use Rattle.volume.proofs.MovedDue.{can_flush_same, publishable_same}
use Rattle.volume.proofs.MovedSnaps.{changed, failed_is, machine_by, met_is, put_is, on_snap_is, spoil_is, spoilt, wrote_is}

any_alike : {X : Type 0} (t u : X → Bool) (xs : List X) → ((x : X) → t x ≡ u x) → list_any t xs ≡ list_any u xs
any_alike t u [] same = refl
any_alike t u (x ∷ xs) same = ap (λ b. b || list_any t xs) (same x) ∙ ap (λ b. u x || b) (any_alike t u xs same)

-- copies after a flush of their store
pub flushed_seen : (copies : List ChunkCopy) → map flushed_copying (map copying_of copies) ≡ map copying_of (map flushed_copy copies)
flushed_seen [] = refl
flushed_seen (p ∷ ps) = ap (λ (cs : List Copying). record (copying_of p) { stage = flushed_stage p.stage } ∷ cs) (flushed_seen ps) ∙ ap (λ (b : Bool). record (copying_of p) { stage = flushed_stage p.stage; bytes = if b then [] else p.buffer.items } ∷ map copying_of (map flushed_copy ps)) (still_waits p.stage)
  where
    still_waits : (stage : Stage) → is_stage Waiting stage ≡ is_stage Waiting (flushed_stage stage)
    still_waits Waiting = refl
    still_waits Read = refl
    still_waits Written = refl
    still_waits Flushed = refl

module _ {B : Type 0} (contents : B → List ℕ) (layers : B → List Layer) where
  saved_seen : (first : ℕ) (snaps : List (Kept B)) → list_all (is_saved first) (map (held_of contents layers) snaps) ≡ list_all (is_saved_in first) (map (snap_books contents layers) snaps)
  saved_seen first [] = refl
  saved_seen first (s ∷ snaps) = ap (λ b. is_saved_in first (snap_books contents layers s) && b) (saved_seen first snaps)

  untried_seen : (snaps : List (Kept B)) → list_any is_untried (map (held_of contents layers) snaps) ≡ list_any (λ (x : SnapBooks). x.untried) (map (snap_books contents layers) snaps)
  untried_seen [] = refl
  untried_seen (s ∷ snaps) = ap (λ b. s.untried || b) (untried_seen snaps)

  -- an origin write may go to the origin disk
  pub clear_seen : (first : ℕ) (snaps : List (Kept B)) → is_clear (map (held_of contents layers) snaps) first ≡ is_clear_in (map (snap_books contents layers) snaps) first
  clear_seen first snaps =
      ap (λ b. b && not (list_any is_untried (map (held_of contents layers) snaps))) (saved_seen first snaps)
      ∙ ap (λ b. list_all (is_saved_in first) (map (snap_books contents layers) snaps) && not b) (untried_seen snaps)

  -- and so many sectors of a merged chunk
  saved_over_seen : (first count : ℕ) (snaps : List (Kept B)) → list_all (is_saved_over first count) (map (held_of contents layers) snaps) ≡ list_all (is_saved_over_in first count) (map (snap_books contents layers) snaps)
  saved_over_seen first count [] = refl
  saved_over_seen first count (s ∷ snaps) = ap (λ b. is_saved_over_in first count (snap_books contents layers s) && b) (saved_over_seen first count snaps)

  pub clear_over_seen : (first count : ℕ) (snaps : List (Kept B)) → is_clear_over (map (held_of contents layers) snaps) first count ≡ is_clear_over_in (map (snap_books contents layers) snaps) first count
  clear_over_seen first count snaps =
      ap (λ b. b && not (list_any is_untried (map (held_of contents layers) snaps))) (saved_over_seen first count snaps)
      ∙ ap (λ b. list_all (is_saved_over_in first count) (map (snap_books contents layers) snaps) && not b) (untried_seen snaps)

  -- held origin writes are routed again, beside a merge or without one
  pub route_seen : (merge : Option MergeSeen) (snaps : List (Kept B)) (f : Flight)
      → write_route (held_in merge) (map (held_of contents layers) snaps) f.request.range.first ≡ new_route (books_in merge) (is_clear_in (map (snap_books contents layers) snaps)) f
  route_seen None snaps f = ap (write_route_of false None) (clear_seen f.request.range.first snaps)
  route_seen (Some s) snaps f =
      let held : Option MergeHeld = Some (merge_held_of s) in
      ap (write_route_of (is_grouped held f.request.range.first) (merged_place held f.request.range.first)) (clear_seen f.request.range.first snaps)

  -- whether what the merge writes is done decides none
  pub again_books : (m : Option (Merging B)) (clear : ℕ → Bool) (fs : List Flight) → map (again_of (books_in (merge_seen contents layers m)) clear) fs ≡ map (again_of (merge_books contents layers true m) clear) fs
  again_books None clear fs = refl
  again_books (Some m) clear fs = refl

  pub again_seen : (m : Option (Merging B)) (snaps : List (Kept B)) (fs : List Flight)
      → map (again (held_in (merge_seen contents layers m)) (map (held_of contents layers) snaps)) (map going_of fs) ≡ map going_of (map (again_of (merge_books contents layers true m) (is_clear_in (map (snap_books contents layers) snaps))) fs)
  again_seen m snaps fs =
      let clear : ℕ → Bool = is_clear_in (map (snap_books contents layers) snaps) in
      let seen : Option MergeSeen = merge_seen contents layers m in
      seen_alike (again (held_in seen) (map (held_of contents layers) snaps)) (again_of (books_in seen) clear) fs
      (λ f. ap (λ (route : Route). record (going_of f) { route = again_route_of (kind_of f.request) f.route route }) (route_seen seen snaps f))
      ∙ ap (map going_of) (again_books m clear fs)

  -- held writes of a snapshot
  pub placed_seen : (s : Kept B) (fs : List Flight) → map (placed (held_of contents layers s)) (map going_of fs) ≡ map going_of (map (placed_of (snap_books contents layers s)) fs)
  placed_seen s [] = refl
  placed_seen s (f ∷ fs) = ap (λ (rs : List Going). going_of (placed_of (snap_books contents layers s) f) ∷ rs) (placed_seen s fs)

  module _ (replied : Option Reply) (v : Volumed B) (n k : ℕ) (s : Kept B) where
    -- a volume that is routed again
    rerouted_is : (w : Volumed B) (flights : List Flight) → flights ≡ map (again_of (merge_books contents layers true w.merge) (is_clear_in (map (snap_books contents layers) w.snaps))) w.flights
        → rerouted (moving_of contents layers replied w) ≡ moving_of contents layers replied (record w { flights = flights })
    rerouted_is w flights is =
        machine_by contents layers (held_in (merge_seen contents layers w.merge)) replied w.copies (device_of contents layers w.origin) (device_of contents layers w.origin) (map (held_of contents layers) w.snaps) (map (held_of contents layers) w.snaps)
        (map (again (held_in (merge_seen contents layers w.merge)) (map (held_of contents layers) w.snaps)) (map going_of w.flights)) (map going_of flights) refl refl (again_seen w.merge w.snaps w.flights ∙ sym (ap (map going_of) is))

    -- a spoiled snapshot's mark is written
    module _ (found : IsFirst (is_trying n) k s v.snaps) (s' : Kept B) (faults faults' done done' : ℕ) (d : B) where
      abbrev tries : SnapHeld → Bool
      tries x = (x.snap.number == n) && can_mark x

      abbrev mark_op : Operation
      mark_op = Writes 0 s.state.chunk

      abbrev mark_bytes : List ℕ
      mark_bytes = marked s.state.chunk (contents s.device)

      abbrev mark_after : SnapHeld
      mark_after = with_store (held_of contents layers s) (written_by (held_of contents layers s).snap.store mark_op mark_bytes)

      pub write_invalid_done : IsOneOperation mark_op true (layers s.device) (layers d) faults faults' done done'
          → contents d ≡ with_sectors (contents s.device) 0 (header_bytes (512 * s.state.chunk) false s.state.chunk)
          → s' ≡ record s { device = d; marked = true; state = record s.state { valid = false } }
          → stepped (WriteInvalid n) (moving_of contents layers replied v) ≡ moving_of contents layers replied (changed v v.origin k s' v.flights)
      write_invalid_done one new is =
          let m : Moving = moving_of contents layers replied v in
          let h : SnapHeld = held_of contents layers s in
          let test : SnapHeld → Bool = λ (x : SnapHeld). (x.snap.number == n) && can_mark x in
          let after : SnapHeld = mark_after in
          let h_is : record after { marked = true } ≡ held_of contents layers s' =
          ap (λ (x : Device). record (with_store h x) { marked = true }) (wrote_is contents layers mark_op mark_bytes faults faults' done done' s.device d one new) ∙ sym (ap (held_of contents layers) is) in
          on_snap_is contents layers replied v k s test found mark_invalid
          ∙ if_true (answers h.snap.store mark_op) (put test (record after { marked = true }) m) (rerouted (put test (record after { snap = record after.snap { stale = true }; untried = false }) m)) (sym one.answer)
          ∙ put_is contents layers replied v k s test found v.origin m.origin s' (record after { marked = true }) refl h_is

      -- its write failed
      pub write_invalid_fault : (flights : List Flight) → IsOneOperation mark_op false (layers s.device) (layers d) faults faults' done done' → contents d ≡ contents s.device
          → s' ≡ record s { device = d; untried = false; stale = true }
          → flights ≡ map (again_of (merge_books contents layers true v.merge) (is_clear_in (map (snap_books contents layers) (set v.snaps k s')))) v.flights
          → stepped (WriteInvalid n) (moving_of contents layers replied v) ≡ moving_of contents layers replied (changed v v.origin k s' flights)
      write_invalid_fault flights one same is routed =
          let m : Moving = moving_of contents layers replied v in
          let h : SnapHeld = held_of contents layers s in
          let test : SnapHeld → Bool = λ (x : SnapHeld). (x.snap.number == n) && can_mark x in
          let after : SnapHeld = mark_after in
          let tried : SnapHeld = record after { snap = record after.snap { stale = true }; untried = false } in
          let h_is : tried ≡ held_of contents layers s' =
          ap (λ (x : Device). record h { snap = record h.snap { store = x; stale = true }; untried = false }) (failed_is contents layers mark_op mark_bytes faults faults' done done' s.device d one same) ∙ sym (ap (held_of contents layers) is) in
          on_snap_is contents layers replied v k s test found mark_invalid
          ∙ if_false (answers h.snap.store mark_op) (put test (record after { marked = true }) m) (rerouted (put test tried m)) (sym one.answer)
          ∙ ap rerouted (put_is contents layers replied v k s test found v.origin m.origin s' tried refl h_is)
          ∙ rerouted_is (changed v v.origin k s' v.flights) flights routed

    -- the store of a spoiled snapshot whose mark was written is flushed: the mark is tried, whatever the device answers
    flushing_first : All IsCounted v.snaps → IsFirst (is_flushing n) k s v.snaps → IsFirst (λ x. ((held_of contents layers x).snap.number == n) && can_flush_store (held_of contents layers x)) k s v.snaps
    flushing_first counted found = first_by_all (is_flushing n) (λ x. ((held_of contents layers x).snap.number == n) && can_flush_store (held_of contents layers x)) k s v.snaps
        (λ i e lt. sym (ap (λ b. ((get_or v.snaps i e).number == n) && b) (can_flush_same contents layers (get_or v.snaps i e) (counted i e lt)))) found

    module _ (counted : All IsCounted v.snaps) (first : IsFirst (is_flushing n) k s v.snaps) (faults faults' done done' : ℕ) (d : B) (same : contents d ≡ contents s.device) where
      abbrev flushes : SnapHeld → Bool
      flushes x = (x.snap.number == n) && can_flush_store x

      found : IsFirst (λ x. flushes (held_of contents layers x)) k s v.snaps
      found = flushing_first counted first

      abbrev met_after : SnapHeld
      met_after = with_store (held_of contents layers s) (met (held_of contents layers s).snap.store Flushes)

      -- a mark was written, which is tried then
      abbrev tried_by : Bool → Device → SnapHeld
      tried_by ok store =
          let h : SnapHeld = held_of contents layers s in
          record h { snap = record h.snap { store = store; stale = not ok }; untried = false }

      pub flush_mark_is : (ok : Bool) (s' : Kept B) (flights : List Flight) → s.marked ≡ true → IsOneOperation Flushes ok (layers s.device) (layers d) faults faults' done done'
          → s' ≡ record s { device = d; untried = false; stale = not ok }
          → flights ≡ map (again_of (merge_books contents layers true v.merge) (is_clear_in (map (snap_books contents layers) (set v.snaps k s')))) v.flights
          → stepped (FlushStore n) (moving_of contents layers replied v) ≡ moving_of contents layers replied (changed v v.origin k s' flights)
      flush_mark_is ok s' flights written one is routed =
          let m : Moving = moving_of contents layers replied v in
          let h : SnapHeld = held_of contents layers s in
          let test : SnapHeld → Bool = λ (x : SnapHeld). (x.snap.number == n) && can_flush_store x in
          let after : SnapHeld = met_after in
          let given : Bool = answers h.snap.store Flushes in
          let h_is : tried_by given after.snap.store ≡ held_of contents layers s' =
          ap (λ (b : Bool). tried_by b after.snap.store) (sym one.answer)
          ∙ ap (tried_by ok) (met_is contents layers Flushes ok faults faults' done done' s.device d one same) ∙ sym (ap (held_of contents layers) is) in
          on_snap_is contents layers replied v k s test found flush_store
          ∙ if_true s.marked (rerouted (put test (tried_by given after.snap.store) m)) (if given then put test (flushed_held after) m else spoil test after m) written
          ∙ ap rerouted (put_is contents layers replied v k s test found v.origin m.origin s' (tried_by given after.snap.store) refl h_is)
          ∙ rerouted_is (changed v v.origin k s' v.flights) flights routed

      -- the store of a live snapshot
      flushing_is : s.marked ≡ false → stepped (FlushStore n) (moving_of contents layers replied v)
          ≡ (if answers (held_of contents layers s).snap.store Flushes then put flushes (flushed_held met_after) (moving_of contents layers replied v) else spoil flushes met_after (moving_of contents layers replied v))
      flushing_is unmarked =
          let m : Moving = moving_of contents layers replied v in
          let test : SnapHeld → Bool = λ (x : SnapHeld). (x.snap.number == n) && can_flush_store x in
          let given : Bool = answers (held_of contents layers s).snap.store Flushes in
          on_snap_is contents layers replied v k s test found flush_store
          ∙ if_false s.marked (rerouted (put test (tried_by given met_after.snap.store) m)) (if given then put test (flushed_held met_after) m else spoil test met_after m) unmarked

      pub flush_store_done : (s' : Kept B) → s.marked ≡ false → IsOneOperation Flushes true (layers s.device) (layers d) faults faults' done done'
          → s' ≡ record s { device = d; state = record s.state { firm = s.state.zeroed; sure = length s.pairs }; copies = map flushed_copy s.copies; marks = map safe_mark s.marks }
          → stepped (FlushStore n) (moving_of contents layers replied v) ≡ moving_of contents layers replied (changed v v.origin k s' v.flights)
      flush_store_done s' unmarked one is =
          let m : Moving = moving_of contents layers replied v in
          let h : SnapHeld = held_of contents layers s in
          let test : SnapHeld → Bool = λ (x : SnapHeld). (x.snap.number == n) && can_flush_store x in
          let after : SnapHeld = met_after in
          let h_is : flushed_held after ≡ held_of contents layers s' =
          ap (λ (x : Device). flushed_held (with_store h x)) (met_is contents layers Flushes true faults faults' done done' s.device d one same)
          ∙ ap (λ (cs : List Copying). record (flushed_held (with_store h (device_of contents layers d))) { copies = cs }) (flushed_seen s.copies)
          ∙ sym (ap (held_of contents layers) is) in
          flushing_is unmarked
          ∙ if_true (answers h.snap.store Flushes) (put test (flushed_held after) m) (spoil test after m) (sym one.answer)
          ∙ put_is contents layers replied v k s test found v.origin m.origin s' (flushed_held after) refl h_is

      pub flush_store_fault : (s' s'' : Kept B) → s.marked ≡ false → IsOneOperation Flushes false (layers s.device) (layers d) faults faults' done done'
          → s' ≡ record s { device = d } → s'' ≡ spoilt s'
          → stepped (FlushStore n) (moving_of contents layers replied v) ≡ moving_of contents layers replied (changed v v.origin k s'' (map (refused_of (s.number ∷ [])) v.flights))
      flush_store_fault s' s'' unmarked one kept gone =
          let m : Moving = moving_of contents layers replied v in
          let h : SnapHeld = held_of contents layers s in
          let test : SnapHeld → Bool = λ (x : SnapHeld). (x.snap.number == n) && can_flush_store x in
          let after : SnapHeld = met_after in
          flushing_is unmarked
          ∙ if_false (answers h.snap.store Flushes) (put test (flushed_held after) m) (spoil test after m) (sym one.answer)
          ∙ spoil_is contents layers replied v k s test found v.origin m.origin s'' after refl
          (ap (λ (x : Device). spoiled (with_store h x)) (met_is contents layers Flushes false faults faults' done done' s.device d one same)
          ∙ sym (ap (held_of contents layers) gone ∙ ap (λ (x : Kept B). held_of contents layers (spoilt x)) kept)) refl

    -- the snapshot whose mark it is is found
    pub publishes_first : IsFirst (λ (x : Kept B). has_mark_at v.flights n x) k s v.snaps → IsFirst (λ (x : Kept B). publishes (map going_of v.flights) n (held_of contents layers x)) k s v.snaps
    publishes_first found =
        let test : SnapHeld → Bool = publishes (map going_of v.flights) n in
        first_by_test (λ (x : Kept B). has_mark_at v.flights n x) (λ (x : Kept B). test (held_of contents layers x)) k s v.snaps
        (λ x. any_alike (is_mark_of x v.flights n) (λ (y : Mark). (y.number == n) && is_publishable (map going_of v.flights) (held_of contents layers x) y) x.marks
        (λ y. ap (λ b. (y.number == n) && b) (sym (publishable_same contents layers x v.flights y)))) found

    -- a mark is taken away
    pub publish_is : IsFirst (λ (x : Kept B). has_mark_at v.flights n x) k s v.snaps → (j : ℕ) (m : Mark) → IsFirst (λ (x : Mark). x.number == n) j m s.marks → (s' : Kept B) (flights : List Flight)
        → s' ≡ record s { marks = remove s.marks j; merging = unpublished m.number s.merging }
        → flights ≡ map (again_of (merge_books contents layers true v.merge) (is_clear_in (map (snap_books contents layers) (set v.snaps k s')))) (map (placed_of (snap_books contents layers s')) v.flights)
        → stepped (Publish n) (moving_of contents layers replied v) ≡ moving_of contents layers replied (changed v v.origin k s' flights)
    publish_is found j m mine s' flights is routed =
        let w : Moving = moving_of contents layers replied v in
        let h : SnapHeld = held_of contents layers s in
        let test : SnapHeld → Bool = publishes (map going_of v.flights) n in
        let seen : IsFirst (λ (x : Kept B). test (held_of contents layers x)) k s v.snaps = publishes_first found in
        let after : SnapHeld = record h { marks = without_first (λ (x : Mark). x.number == n) s.marks } in
        let h_is : after ≡ held_of contents layers s' =
        ap (λ (ms : List Mark). record h { marks = ms }) (without_is (λ (x : Mark). x.number == n) j m s.marks mine) ∙ sym (ap (held_of contents layers) is) in
        let placed_first : Volumed B = changed v v.origin k s' (map (placed_of (snap_books contents layers s')) v.flights) in
        on_snap_is contents layers replied v k s test seen (λ t x. publish t (λ (y : Mark). y.number == n) x)
        ∙ ap (λ (x : SnapHeld). rerouted (record w { snaps = with_first test x w.snaps; requests = map (placed x) w.requests })) h_is
        ∙ ap rerouted (machine_by contents layers (held_in (merge_seen contents layers v.merge)) replied v.copies w.origin w.origin (with_first test (held_of contents layers s') w.snaps) (map (held_of contents layers) (set v.snaps k s'))
        (map (placed (held_of contents layers s')) w.requests) (map going_of (map (placed_of (snap_books contents layers s')) v.flights)) refl (with_is (held_of contents layers) test k s s' v.snaps seen) (placed_seen s' v.flights))
        ∙ rerouted_is placed_first flights routed

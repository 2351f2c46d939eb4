-- A mark was taken away, and the copies are started that a merge waits for then: the volume is whole again, and the event does
-- what a step promises.
use Rattle.std.proofs.Common.{◌≡◌, inl, inr, ℕ, ◌+◌, ◌<◌, ◌≤◌, Bool, true, false, List, [], ◌∷◌, Option, None, Some, length, get_or, set, map, refl, sym, ◌∙◌, ap, subst, arith}
use Rattle.std.specs.Prelude.{◌&&◌, sum_by}
use Rattle.std.specs.List.{All, list_all}
use Rattle.std.proofs.lemmas.Bool.{cases_Bool}
use Rattle.std.proofs.lemmas.List.{length-map, map-set, get_or-map}
use Rattle.std.proofs.Math.Seq.{map-set_same}
use Rattle.sector.specs.declared.pair.Pair.{Pair}
use Rattle.device.specs.Layers.{Layer, is_loud}
use Rattle.plain_machine.specs.declared.event.Event.TheVariants.{Publish}
use Rattle.plain_machine.specs.declared.event.Outcome.TheVariants.{Done}
use Rattle.in_flight.specs.Due.{number_of_flight}
use Rattle.in_flight.specs.Kinds.{in_flight}
use Rattle.in_flight.specs.declared.flights.Flight.{Flight}
use Rattle.volume_laws.specs.Books.{SnapBooks}
use Rattle.volume_laws.specs.Due.{books_of as due_in, weight_of}
use Rattle.volume_laws.specs.MergeDue.{DueMerge, left_beside, left_in_merge, next_pair}
use Rattle.volume_laws.specs.MergeRooms.{RoomSnap, room_books, KeepBack}
use Rattle.volume_laws.specs.MergeWaits.{IsSavedSoon, MergeGoes, MergeSteady, next_in, next_pairs}
use Rattle.volume_laws.specs.Merging.{MergeHolds}
use Rattle.volume_laws.specs.Outcomes.{IsSpoil}
use Rattle.volume_laws.proofs.Composing.{silent_is, spoil_then}
use Rattle.volume_laws.proofs.MergeLeft.{no_group}
use Rattle.volume_laws.proofs.MergeRoomEvents.{rooms_changed}
use Rattle.volume_laws.proofs.MergeRoomSteps.{steady_next}
use Rattle.volume_laws.proofs.MergeRoomStarts.{HaveRoom}
use Rattle.volume_laws.proofs.MergeSaved.{goes_steady, next_none, next_some, steady_all, steady_changed, steady_goes}
use Rattle.snapshot.specs.Kept.{Kept, books_of as snap_books}
use Rattle.snapshot_list.specs.Numbers.{number_of_snap}
use Rattle.merge.specs.Lists.{next_of_group, reading_of, waiting_of}
use Rattle.merge.specs.Merging.{Merging, books_of as merging_books, due_of as merging_due}
use Rattle.merge.specs.declared.group.Group.{Group}
use Rattle.snapshot_list.specs.Rooms.{room_of}
use Rattle.snapshot_list.specs.MergeStarting.{CanSaveNext, IsNextSaved, IsNextSavedBeside}
use Rattle.volume.specs.Volumed.{Volumed, books_of, is_loud_with, is_loud_in_all, left_by, left_in_all, dues_of, merge_due}
use Rattle.volume.specs.Whole.{AreNumbers, GoesOn, IsMerged, IsWhole}
use Rattle.volume.specs.Causes.{HasCause, counts_of, counts_with}
use Rattle.volume.proofs.AgainEvents.{IsUnmarked}
use Rattle.volume.proofs.Changing.{SnapsFit, books_is, books_within, changed, loud_changed, lower_changed, same_disk, snaps_changed, whole_with}
use Rattle.volume.proofs.Counting.{counts_same, kept_changed, lives_same}
use Rattle.volume.proofs.Good.{IsGood, legal_by, same_numbers, silent_with}
use Rattle.volume.proofs.MergeChanging.{merged_in}
use Rattle.volume.proofs.MergeGroups.{can_save, held_in}
use Rattle.volume.proofs.MergeOperations.{rooms_seen}
use Rattle.volume.proofs.MergeSaves.{IsNextDone, all_mapped, next_done, still_apart}
use Rattle.volume.proofs.Shown.{due_books}

-- the pair that a group copies next, by its lists
pub pair_by : (g : Option Group) → next_of_group g ≡ next_pair (reading_of g) (waiting_of g)
pair_by g = by (reading_of g) refl
  where
    by : (reading : List Pair) → reading_of g ≡ reading → next_of_group g ≡ next_pair (reading_of g) (waiting_of g)
    by [] e = rw e refl
    by (q ∷ rest) e = rw e refl

module _ {B : Type 0} (contents : B → List ℕ) (layers : B → List Layer) (size : B → ℕ) (v : Volumed B) (h : IsWhole contents layers size v) (k : ℕ) (s s' : Kept B) (within : k < length v.snaps) (is : s ≡ get_or v.snaps k s)
    (flights : List Flight) (p : IsUnmarked contents layers size v k s s' flights) where
  abbrev pub u : Volumed B
  u = changed v v.origin k s' flights

  abbrev sb : Kept B → SnapBooks
  sb = snap_books contents layers

  fit : SnapsFit v.copies v.attached (size v.origin) (set v.snaps k s')
  fit = snaps_changed contents layers size v v.origin k s s' within is h (same_disk contents layers size v.origin) p.stays

  numbers_same : map number_of_flight flights ≡ map number_of_flight v.flights
  numbers_same = same_numbers v.flights flights p.flown

  less_left : left_in_all contents layers u < left_in_all contents layers v
  less_left = lower_changed contents layers size v v.origin k s s' within is flights p.weights p.less p.room.saved

  -- with a merge
  module _ (m : Merging B) (was : v.merge ≡ Some m) where
    one : IsMerged contents layers size m v
    one = merged_in contents layers size v m was h

    abbrev sound : Bool
    sound = is_loud (layers v.origin) && is_loud (layers m.device)

    -- the merge is steady still, and as much is kept back
    steady : (loud : Bool) → MergeSteady (map (snap_books contents layers) (set v.snaps k s')) (merging_due contents loud m)
    steady loud = subst (λ xs. MergeSteady xs (merging_due contents loud m)) (sym (map-set sb v.snaps k s'))
        (steady_changed (map sb v.snaps) k (sb s) (sb s') (books_within contents layers size v v.origin k s s' within is) (books_is contents layers size v v.origin k s s' within is) p.room.saved (merging_due contents loud m)
        (goes_steady (map sb v.snaps) (merging_due contents loud m) (one.goes loud)))

    kept : KeepBack m.state.chunk m.state.origin m.pairs (map (room_of contents layers) (set v.snaps k s'))
    kept =
        let room : Kept B → RoomSnap = room_of contents layers in
        subst (KeepBack m.state.chunk m.state.origin m.pairs) (sym (map-set room v.snaps k s'))
        (rooms_changed m.state.chunk m.state.origin m.pairs (map room v.snaps) k (room s) (room s') (omega (arith, within, length-map v.snaps room)) (ap room is ∙ sym (get_or-map room v.snaps k s (room s) within)) p.room one.rooms)

    holds_in : MergeHolds (contents v.origin) flights (merging_books contents sound m)
    holds_in = held_in contents layers size u p.silent.holds m was one.origin fit.snaps

    pair_is : (q : Pair) → next_of_group m.group ≡ Some q → next_pair (reading_of m.group) (waiting_of m.group) ≡ Some q
    pair_is q e = sym (pair_by m.group) ∙ e

    pub room : (q : Pair) → next_of_group m.group ≡ Some q → HaveRoom m.state.chunk m.state.origin m.pairs q (map (room_of contents layers) (set v.snaps k s'))
    room q e = record {
      kept = kept;
      next = steady_next (contents v.origin) flights (map room_books (map (room_of contents layers) (set v.snaps k s'))) (merging_due contents sound m) holds_in
          (subst (λ xs. MergeSteady xs (merging_due contents sound m)) (sym (rooms_seen contents layers (set v.snaps k s'))) (steady sound)) q (pair_is q e);
    }

    pub unmarked_can_save : (q : Pair) → next_of_group m.group ≡ Some q → CanSaveNext m.state.chunk m.state.origin v.copies (set v.snaps k s') q
    unmarked_can_save q e = can_save contents layers size u p.silent.holds m was one.origin fit.snaps q (room q e)

    -- a merge that has a group runs
    running : (q : Pair) → next_of_group m.group ≡ Some q → m.failed ≡ false
    running q e = elim (cases_Bool m.failed) [
      | inl failed ↦
          (let none = no_group (merging_books contents true m) ((one.goes true).staged.none failed) in
          let empty : next_pair (reading_of m.group) (waiting_of m.group) ≡ None = ap (λ ps. next_pair ps (waiting_of m.group)) none.reading ∙ ap (λ ps. next_pair [] ps) none.waiting in
          let wrong : None ≡ Some q = sym empty ∙ pair_is q e in
          absurd (cc))
      | inr runs ↦ runs
    ]

    module _ (ts : List (Kept B)) (n : ℕ) (gs : List Flight) (saved : IsNextSaved contents layers m.state.chunk m.state.origin (next_of_group m.group) (set v.snaps k s') ts v.copies n flights gs) where
      abbrev pub w : Volumed B
      w = record u { snaps = ts; copies = n; flights = gs }

      done : IsNextDone contents layers size m (next_of_group m.group) u w
      done = next_done contents layers size m u p.silent.holds p.waits fit kept (next_of_group m.group) running room ts n gs saved

      soon : (loud : Bool) → All (IsSavedSoon m.state.chunk m.state.origin (map (snap_books contents layers) ts)) (next_in (merging_books contents loud m))
      soon loud = by (next_of_group m.group) refl
        where
          by : (o : Option Pair) → next_of_group m.group ≡ o → All (IsSavedSoon m.state.chunk m.state.origin (map (snap_books contents layers) ts)) (next_in (merging_books contents loud m))
          by None e =
              subst (All (IsSavedSoon m.state.chunk m.state.origin (map (snap_books contents layers) ts))) (ap (next_pairs []) e ∙ sym (next_none (merging_books contents loud m) (sym (pair_by m.group) ∙ e))) done.soon
          by (Some q) e =
              subst (All (IsSavedSoon m.state.chunk m.state.origin (map (snap_books contents layers) ts))) (ap (next_pairs []) e ∙ sym (next_some (merging_due contents loud m) (one.goes loud).staged q (sym (pair_by m.group) ∙ e))) done.soon

      goes : (loud : Bool) → MergeGoes (map (snap_books contents layers) ts) (merging_due contents loud m)
      goes loud = steady_goes (map sb ts) (merging_due contents loud m) (steady_all (map sb (set v.snaps k s')) (map sb ts) (merging_due contents loud m) done.starts.keeps (steady loud)) (soon loud)

      names : map number_of_snap ts ≡ map number_of_snap v.snaps
      names = done.numbers ∙ map-set_same number_of_snap v.snaps k s' s (p.stays.number ∙ ap number_of_snap is)

      len : length ts ≡ length v.snaps
      len = sym (length-map ts number_of_snap) ∙ ap length names ∙ length-map v.snaps number_of_snap

      flown : map in_flight gs ≡ map in_flight v.flights
      flown = done.flights ∙ p.flown

      pub whole_published : IsWhole contents layers size w
      whole_published =
          let numbers : map number_of_flight gs ≡ map number_of_flight v.flights = same_numbers v.flights gs flown in
          let merge : IsMerged contents layers size m w = record {
            origin = one.origin;
            allowed = one.allowed;
            apart = still_apart m.number v.snaps ts names one.apart;
            given = one.given;
            few = omega (arith, one.few, len);
            goes = goes;
            rooms = done.rooms;
          } in
          record {
            holds = done.starts.spoil.holds;
            waits = done.starts.waits;
            merge = subst (λ (x : Option (Merging B)). GoesOn contents layers size x w) (sym was) merge;
            snaps = done.fit.snaps;
            counted = done.fit.counted;
            apart = done.fit.apart;
            numbers = done.fit.numbers;
            requests = subst (AreNumbers v.requests) (sym numbers) h.requests;
            few = done.fit.few;
            few_copies = done.fit.few_copies;
            few_requests = omega (arith, h.few_requests, ap length numbers, length-map gs number_of_flight, length-map v.flights number_of_flight);
            numbers_left = done.fit.numbers_left;
          }

      -- what copies the merge starts, leaves no more
      no_more : left_in_all contents layers w ≤ left_in_all contents layers u
      no_more =
          let d : DueMerge = merging_due contents true m in
          let same : sum_by weight_of gs ≡ sum_by weight_of flights = done.weights in
          let before : left_by (dues_of contents layers u) (merge_due contents v.merge) ≡ left_in_merge (merging_due contents true m) + left_beside (map due_in (dues_of contents layers u)) (merging_due contents true m) =
          ap (λ (x : Option (Merging B)). left_by (dues_of contents layers u) (merge_due contents x)) was in
          let after : left_by (dues_of contents layers w) (merge_due contents v.merge) ≡ left_in_merge (merging_due contents true m) + left_beside (map due_in (dues_of contents layers w)) (merging_due contents true m) =
          ap (λ (x : Option (Merging B)). left_by (dues_of contents layers w) (merge_due contents x)) was in
          let old : left_beside (map due_in (dues_of contents layers u)) (merging_due contents true m) ≡ left_beside (map (snap_books contents layers) (set v.snaps k s')) (merging_due contents true m) =
          ap (λ xs. left_beside xs (merging_due contents true m)) (due_books contents layers (set v.snaps k s')) in
          let new : left_beside (map due_in (dues_of contents layers w)) (merging_due contents true m) ≡ left_beside (map (snap_books contents layers) ts) (merging_due contents true m) =
          ap (λ xs. left_beside xs (merging_due contents true m)) (due_books contents layers ts) in
          omega (arith, done.left, same, before, after, old, new)

      counts_done : (count : B → ℕ) → counts_of count w ≡ counts_of count v
      counts_done count = ap (λ xs. counts_with count v.merge (count v.origin ∷ xs)) (done.counts count) ∙ counts_same v v.origin k s s' flights within is count refl (ap count p.device)

      loud_done : is_loud_in_all layers w ≡ is_loud_in_all layers v
      loud_done =
          let every : list_all (λ (x : Kept B). is_loud (layers x.device)) ts ≡ list_all (λ (x : Kept B). is_loud (layers x.device)) (set v.snaps k s') =
          all_mapped (λ (x : Kept B). is_loud (layers x.device)) ts ∙ ap (list_all (λ b. b)) done.loud ∙ sym (all_mapped (λ (x : Kept B). is_loud (layers x.device)) (set v.snaps k s')) in
          ap (λ b. is_loud_with layers v.merge (is_loud (layers v.origin) && b)) every
          ∙ loud_changed contents layers size v v.origin k s s' within is flights (same_disk contents layers size v.origin) (ap (λ d. is_loud (layers d)) p.device)

      module _ (faults did : B → ℕ) (number : ℕ) where
        pub published_beside : HasCause faults (Publish number) Done v w → n ≤ v.copies + 1 → IsGood contents layers size faults did (Publish number) Done v w
        published_beside cause few =
            let spoil : IsSpoil done.which (books_of contents layers size v) (books_of contents layers size w) =
            spoil_then [] done.which (books_of contents layers size v) (books_of contents layers size u) (books_of contents layers size w) (silent_is (books_of contents layers size v) (books_of contents layers size u) p.silent) done.starts.spoil p.loud in
            let all = kept_changed size v v.origin k s s' flights within is refl (ap size p.device) p.stays.number p.stays.chunk_is in
            record {
              whole = whole_published;
              stepped = record {
                legal = λ l. legal_by contents layers size v w done.which spoil.step l;
                lower = omega (arith, no_more, less_left);
                loud = loud_done;
                cause = cause;
                failed = refl;
                flown = flown;
                one = inl (counts_done did);
                kept = record {
                  attached = refl;
                  numbers = names;
                  chunks = done.chunks ∙ all.chunks;
                  merged = refl;
                  sizes = counts_done size;
                };
                requests = refl;
                copies = few;
                given = done.given;
                overflows = done.overflows ∙ map-set_same (λ (x : Kept B). x.overflow) v.snaps k s' s (p.overflow ∙ ap (λ (x : Kept B). x.overflow) is);
              };
            }

  -- and without one
  module _ (alone : v.merge ≡ None) (faults did : B → ℕ) (number : ℕ) where
    published_alone : IsGood contents layers size faults did (Publish number) Done v u
    published_alone =
        let goes : GoesOn contents layers size v.merge u = subst (λ (x : Option (Merging B)). GoesOn contents layers size x u) (sym alone) tt in
        silent_with contents layers size faults did v h (Publish number) Done (λ x y e. e) (λ xs ys e. e) (λ b. refl) v.origin k s s' within is (same_disk contents layers size v.origin) (ap (λ d. is_loud (layers d)) p.device) (ap size p.device) flights p.flown p.stays p.overflow p.silent
        (whole_with contents layers size v v.origin k s s' within is flights h (same_disk contents layers size v.origin) p.stays numbers_same p.silent.holds p.waits goes) less_left
        (inl (record { counts = counts_same v v.origin k s s' flights within is faults refl (ap faults p.device); lives = lives_same v v.origin k s s' flights within is p.live }))
        (inl (counts_same v v.origin k s s' flights within is did refl (ap did p.device)))

  module _ (faults did : B → ℕ) (number : ℕ) (ts : List (Kept B)) (n : ℕ) (gs : List Flight) where
    published_by : (merge : Option (Merging B)) → v.merge ≡ merge → IsNextSavedBeside contents layers merge (set v.snaps k s') ts v.copies n flights gs → HasCause faults (Publish number) Done v (record u { snaps = ts; copies = n; flights = gs }) → n ≤ v.copies + 1
        → IsGood contents layers size faults did (Publish number) Done v (record u { snaps = ts; copies = n; flights = gs })
    published_by None alone (same, count, requests) cause few =
        subst (λ (x : List (Kept B)). IsGood contents layers size faults did (Publish number) Done v (record u { snaps = x; copies = n; flights = gs })) (sym same)
        (subst (λ (x : ℕ). IsGood contents layers size faults did (Publish number) Done v (record u { copies = x; flights = gs })) (sym count)
        (subst (λ (x : List Flight). IsGood contents layers size faults did (Publish number) Done v (record u { flights = x })) (sym requests) (published_alone alone faults did number)))
    published_by (Some m) was saved cause few = published_beside m was ts n gs saved faults did number cause few

    pub published_good : IsNextSavedBeside contents layers v.merge (set v.snaps k s') ts v.copies n flights gs → HasCause faults (Publish number) Done v (record u { snaps = ts; copies = n; flights = gs }) → n ≤ v.copies + 1
        → IsGood contents layers size faults did (Publish number) Done v (record u { snaps = ts; copies = n; flights = gs })
    published_good saved cause few = published_by v.merge refl saved cause few

-- A request that is submitted, as the event machine has it.
use Rattle.std.proofs.Common.{◌≡◌, ◌⊎◌, inl, inr, ℕ, ◌+◌, ◌/◌, Bool, true, false, List, [], ◌∷◌, ◌++◌, Option, Some, None, set, map, refl, sym, ◌∙◌, ap}
use Rattle.std.specs.Prelude.{◌==◌, ◌||◌, is_some, if◌then◌else◌}
use Rattle.std.specs.List.{All}
use Rattle.std.proofs.lemmas.List.{map-append}
use Rattle.device.specs.Layers.{Layer}
use Rattle.cow_format.specs.Picture.{place_of}
use Rattle.plain_machine.specs.declared.request.Reply.{Reply}
use Rattle.plain_machine.specs.declared.request.Reply.TheVariants.{Refused as Declined}
use Rattle.plain_machine.specs.declared.request.Failure.TheVariants.{Invalid, Overflow}
use Rattle.plain_machine.specs.declared.request.Overflowing.TheVariants.{Never, Did}
use Rattle.plain_machine.specs.Plain.{did_overflow}
use Rattle.plain_machine.specs.declared.request.Request.{Request}
use Rattle.in_flight.specs.Kinds.{kind_of}
use Rattle.in_flight.specs.Routes.{flush_route_of, read_route_of, write_route_of, refused_of}
use Rattle.merge.specs.Merging.{Merging}
use Rattle.in_flight.specs.declared.flights.Flight.{Flight}
use Rattle.in_flight.specs.declared.flights.Kind.{Kind}
use Rattle.in_flight.specs.declared.flights.Kind.TheVariants.{OriginRead, OriginWrite, OriginFlush, SnapRead, SnapWrite, SnapFlush}
use Rattle.in_flight.specs.declared.flights.Route.{Route}
use Rattle.in_flight.specs.declared.flights.Route.TheVariants.{Held as Waits, Store, Whole}
use Rattle.plain_machine.specs.Kept.{kept}
use Rattle.volume_laws.specs.Again.{published_place}
use Rattle.event_machine.specs.Held.{SnapHeld, Going, Moving}
use Rattle.event_machine.specs.Again.{is_clear, is_grouped, merged_place, write_route}
use Rattle.event_machine.specs.MergeSeen.{held_in}
use Rattle.event_machine.specs.Seen.{going_of}
use Rattle.event_machine.specs.Stepping.{for_some, put, spoil}
use Rattle.event_machine.specs.Submitting.{accepted, chunk_at, declined, started_all, started_by, refused_by, is_filled, needs_none, with_copy, read_snap, flush_snap, write_placed, write_open, write_snap, shuts, overflown, start_copies, submitted, submitted_as}
use Rattle.volume_laws.specs.Published.{is_clear as is_clear_in}
use Rattle.snapshot.specs.Kept.{Kept, books_of as snap_books}
use Rattle.volume.specs.Volumed.{Volumed}
use Rattle.snapshot_list.specs.Starting.{unroomed, lacks, is_full_of, own_of, spoilt_of, AreSavedIn}
use Rattle.volume.specs.Submitting.{entered_of}
use Rattle.snapshot_list.specs.Routing.{is_grouped_at, place_at, is_merged_at}
use Rattle.volume.specs.Moved.{held_of, merge_seen, moving_of}
use Rattle.volume.proofs.MergeRoutes.{grouped_held, place_held_is, unmerged_route, merged_route_is}
use Rattle.volume.proofs.MovedLists.{IsFirst, first_is, with_is, if_true, if_false}
use Rattle.volume.proofs.MovedMarks.{clear_seen}
use Rattle.volume.proofs.MovedSnaps.{spoil_is}
use Rattle.volume.proofs.MovedShuts.{has_open, room_open, never_open, dead_open}
use Rattle.volume.proofs.MovedSubmits.{IsSized, AreAll, all_are, lacks_live, needs_is, filled_is, not_of, yes_of}

module _ {B : Type 0} (contents : B → List ℕ) (layers : B → List Layer) where
  -- room for copies is not seen
  unroomed_held : (xs : List (Kept B)) → map (held_of contents layers) xs ≡ map (held_of contents layers) (map unroomed xs)
  unroomed_held [] = refl
  unroomed_held (x ∷ xs) = ap (λ (hs : List SnapHeld). held_of contents layers x ∷ hs) (unroomed_held xs)

  pub unroomed_seen : (xs ys : List (Kept B)) → map unroomed xs ≡ map unroomed ys → map (held_of contents layers) xs ≡ map (held_of contents layers) ys
  unroomed_seen xs ys e = unroomed_held xs ∙ ap (map (held_of contents layers)) e ∙ sym (unroomed_held ys)

  module _ (replied : Option Reply) (number : ℕ) (request : Request) (f : Flight) (number_is : f.number ≡ number) (request_is : f.request ≡ request) where
    going : (route : Route) → f.route ≡ route → ◌≡◌ {A = Going} (record { number = number; request = request; route = route }) (going_of f)
    going route is = sym (ap (λ (x : ℕ). record { number = x; request = f.request; route = f.route }) number_is ∙ ap (λ (x : Request). record { number = number; request = x; route = f.route }) request_is
        ∙ ap (λ (x : Route). record { number = number; request = request; route = x }) is)

    accepted_is : (u w : Volumed B) (route : Route) → f.route ≡ route → w ≡ entered_of f u → accepted number request route (moving_of contents layers replied u) ≡ moving_of contents layers replied w
    accepted_is u w route is becomes =
        let m : Moving = moving_of contents layers replied u in
        ap (λ (x : Going). record m { requests = map going_of u.flights ++ x ∷ [] }) (going route is)
        ∙ ap (λ (rs : List Going). record m { requests = rs }) (sym (map-append going_of u.flights (f ∷ [])))
        ∙ sym (ap (moving_of contents layers replied) becomes)

    module _ (v w : Volumed B) where
      pub origin_read_is : kind_of request ≡ OriginRead → f.route ≡ read_route_of (place_at request.range.first v.merge) → w ≡ entered_of f v → submitted number request (moving_of contents layers replied v) ≡ moving_of contents layers replied w
      origin_read_is kind is becomes =
          let m : Moving = moving_of contents layers replied v in
          ap (λ (x : Kind). submitted_as x number request m) kind
          ∙ accepted_is v w (read_route_of (merged_place m.merge request.range.first)) (is ∙ ap read_route_of (sym (place_held_is contents layers v.merge request.range.first))) becomes

      -- whether the write is the merge's
      merged_held : (b : Bool) → is_merged_at request.range.first v.merge ≡ b → (is_grouped (held_in (merge_seen contents layers v.merge)) request.range.first || is_some (merged_place (held_in (merge_seen contents layers v.merge)) request.range.first)) ≡ b
      merged_held b e = ap (λ x. x || is_some (merged_place (held_in (merge_seen contents layers v.merge)) request.range.first)) (grouped_held contents layers v.merge request.range.first)
          ∙ ap (λ x. is_grouped_at request.range.first v.merge || is_some x) (place_held_is contents layers v.merge request.range.first) ∙ e

      -- and where it goes
      write_route_held : (hs : List SnapHeld) → write_route (held_in (merge_seen contents layers v.merge)) hs request.range.first ≡ write_route_of (is_grouped_at request.range.first v.merge) (place_at request.range.first v.merge) (is_clear hs request.range.first)
      write_route_held hs = ap (λ x. write_route_of x (merged_place (held_in (merge_seen contents layers v.merge)) request.range.first) (is_clear hs request.range.first)) (grouped_held contents layers v.merge request.range.first)
          ∙ ap (λ x. write_route_of (is_grouped_at request.range.first v.merge) x (is_clear hs request.range.first)) (place_held_is contents layers v.merge request.range.first)

      -- the merge has its chunk
      pub merged_write_is : kind_of request ≡ OriginWrite → is_merged_at request.range.first v.merge ≡ true → f.route ≡ write_route_of (is_grouped_at request.range.first v.merge) (place_at request.range.first v.merge) false → w ≡ entered_of f v
          → submitted number request (moving_of contents layers replied v) ≡ moving_of contents layers replied w
      merged_write_is kind merged is becomes =
          let m : Moving = moving_of contents layers replied v in
          let first : ℕ = request.range.first in
          let to : Moving → Moving = λ (x : Moving). accepted number request (write_route x.merge x.snaps first) x in
          ap (λ (x : Kind). submitted_as x number request m) kind
          ∙ ap to (if_true (is_grouped m.merge first || is_some (merged_place m.merge first)) m (start_copies (chunk_at first) m) (merged_held true merged))
          ∙ accepted_is v w (write_route m.merge m.snaps first) (is ∙ merged_route_is first v.merge merged false (is_clear m.snaps first) ∙ sym (write_route_held m.snaps)) becomes

      -- the copies that it waits for were started, over snapshots that are seen as those of the volume
      pub origin_write_is : (m : ℕ) (before after : List (Kept B)) (gs : List Flight) → kind_of request ≡ OriginWrite → is_merged_at request.range.first v.merge ≡ false → map unroomed before ≡ map unroomed v.snaps
          → All (IsSized contents) before → AreSavedIn contents layers (own_of request.range.first) before after v.copies m v.flights gs
          → f.route ≡ write_route_of false None (is_clear_in (map (snap_books contents layers) after) request.range.first) → w ≡ entered_of f (record v { snaps = after; flights = gs; copies = m })
          → submitted number request (moving_of contents layers replied v) ≡ moving_of contents layers replied w
      origin_write_is m before after gs kind unmerged roomed sized saved is becomes =
          let held : Kept B → SnapHeld = held_of contents layers in
          let m0 : Moving = moving_of contents layers replied v in
          let first : ℕ = request.range.first in
          let u : Volumed B = record v { snaps = after; flights = gs; copies = m } in
          let all : AreAll contents layers (chunk_at first) before after v.copies m v.flights gs = all_are contents layers (own_of first) (chunk_at first) (λ s. refl) before after v.copies m v.flights gs sized saved in
          let route : Route = write_route m0.merge (map held after) first in
          let to : Moving → Moving = λ (x : Moving). accepted number request (write_route x.merge x.snaps first) x in
          let made : List SnapHeld → List Going → ℕ → Moving = λ (hs : List SnapHeld) (rs : List Going) (j : ℕ). accepted number request (write_route m0.merge hs first) (record m0 { snaps = hs; requests = rs; started = j }) in
          ap (λ (x : Kind). submitted_as x number request m0) kind
          ∙ ap to (if_false (is_grouped m0.merge first || is_some (merged_place m0.merge first)) m0 (start_copies (chunk_at first) m0) (merged_held false unmerged))
          ∙ ap (λ (xs : List SnapHeld). made (started_all (chunk_at first) v.copies xs) (refused_by (chunk_at first) xs (map going_of v.flights)) (started_by (chunk_at first) v.copies xs)) (sym (unroomed_seen before v.snaps roomed))
          ∙ ap (λ (hs : List SnapHeld). made hs (refused_by (chunk_at first) (map held before) (map going_of v.flights)) (started_by (chunk_at first) v.copies (map held before))) all.seen
          ∙ ap (λ (rs : List Going). made (map held after) rs (started_by (chunk_at first) v.copies (map held before))) all.requests
          ∙ ap (made (map held after) (map going_of gs)) all.count
          ∙ accepted_is u w route (is ∙ ap (write_route_of false None) (sym (clear_seen contents layers first after)) ∙ sym (unmerged_route first v.merge unmerged (is_clear (map held after) first)) ∙ sym (write_route_held (map held after))) becomes

      -- a flush of the origin, which goes to the merging store first where a merge is begun
      pub origin_flush_is : kept request ≡ request → kind_of request ≡ OriginFlush → f.route ≡ flush_route_of (is_some v.merge) → w ≡ entered_of f v → submitted number request (moving_of contents layers replied v) ≡ moving_of contents layers replied w
      origin_flush_is whole kind is becomes =
          let m : Moving = moving_of contents layers replied v in
          ap (λ (x : Kind). submitted_as x number request m) kind
          ∙ ap (λ (r : Request). accepted number r (flush_route_of (is_some m.merge)) m) whole
          ∙ accepted_is v w (flush_route_of (is_some m.merge)) (is ∙ ap flush_route_of (begun_held v.merge)) becomes
        where
          begun_held : (o : Option (Merging B)) → is_some o ≡ is_some (held_in (merge_seen contents layers o))
          begun_held None = refl
          begun_held (Some g) = refl

      module _ (n k : ℕ) (s : Kept B) (found : IsFirst (λ (x : Kept B). x.number == n) k s v.snaps) where
        -- a flush of a live snapshot
        pub snap_flush_is : kept request ≡ request → kind_of request ≡ SnapFlush n → s.live ≡ true → f.route ≡ Whole → w ≡ entered_of f v → submitted number request (moving_of contents layers replied v) ≡ moving_of contents layers replied w
        snap_flush_is whole kind live is becomes =
            let m : Moving = moving_of contents layers replied v in
            ap (λ (x : Kind). submitted_as x number request m) kind
            ∙ ap (λ (x : Option SnapHeld). for_some x (λ h. flush_snap number (kept request) h m) (declined Invalid m)) (first_is (held_of contents layers) (λ (h : SnapHeld). h.snap.number == n) k s v.snaps found)
            ∙ if_true s.live (accepted number (kept request) Whole m) (declined Invalid m) live
            ∙ ap (λ (r : Request). accepted number r Whole m) whole
            ∙ accepted_is v w Whole is becomes

        -- a read of a live snapshot
        pub snap_read_is : kind_of request ≡ SnapRead n → s.live ≡ true → f.route ≡ read_route_of (place_of s.pairs (request.range.first / s.state.chunk)) → w ≡ entered_of f v
            → submitted number request (moving_of contents layers replied v) ≡ moving_of contents layers replied w
        snap_read_is kind live is becomes =
            let m : Moving = moving_of contents layers replied v in
            let route : Route = read_route_of (place_of s.pairs (request.range.first / s.state.chunk)) in
            ap (λ (x : Kind). submitted_as x number request m) kind
            ∙ ap (λ (x : Option SnapHeld). for_some x (λ h. read_snap number request h m) (declined Invalid m)) (first_is (held_of contents layers) (λ (h : SnapHeld). h.snap.number == n) k s v.snaps found)
            ∙ if_true s.live (accepted number request route m) (declined Invalid m) live
            ∙ accepted_is v w route is becomes

        write_found : kind_of request ≡ SnapWrite n → s.live ≡ true → shuts (request.range.first / s.state.chunk) (held_of contents layers s) ≡ false → (place : Option ℕ) → published_place s.pairs s.marks (request.range.first / s.state.chunk) ≡ place
            → submitted number request (moving_of contents layers replied v) ≡ write_placed number request (λ (h : SnapHeld). h.snap.number == n) (held_of contents layers s) place (moving_of contents layers replied v)
        write_found kind live takes place at =
            let m : Moving = moving_of contents layers replied v in
            let h : SnapHeld = held_of contents layers s in
            let test : SnapHeld → Bool = λ (x : SnapHeld). x.snap.number == n in
            ap (λ (x : Kind). submitted_as x number request m) kind
            ∙ ap (λ (x : Option SnapHeld). for_some x (λ y. write_snap number request test y m) (declined Invalid m)) (first_is (held_of contents layers) test k s v.snaps found)
            ∙ if_false (shuts (request.range.first / s.state.chunk) h) (declined Overflow (put test (overflown h) m)) (write_open number request test h m) takes
            ∙ if_true s.live (write_placed number request test h (published_place s.pairs s.marks (request.range.first / s.state.chunk)) m) (declined Invalid m) live
            ∙ ap (λ (x : Option ℕ). write_placed number request test h x m) at

        -- a write of a chunk that it has published
        pub snap_write_placed_is : (place : ℕ) → kind_of request ≡ SnapWrite n → s.live ≡ true → did_overflow s.overflow ≡ false → lacks request.range.first s ≡ false → published_place s.pairs s.marks (request.range.first / s.state.chunk) ≡ Some place → f.route ≡ Store place → w ≡ entered_of f v
            → submitted number request (moving_of contents layers replied v) ≡ moving_of contents layers replied w
        snap_write_placed_is place kind live did has at is becomes = write_found kind live (has_open contents layers request.range.first s did has) (Some place) at ∙ accepted_is v w (Store place) is becomes

        -- of one whose copy is under way
        pub snap_write_waits_is : kind_of request ≡ SnapWrite n → s.live ≡ true → did_overflow s.overflow ≡ false → published_place s.pairs s.marks (request.range.first / s.state.chunk) ≡ None → lacks request.range.first s ≡ false → f.route ≡ Waits
            → w ≡ entered_of f v → submitted number request (moving_of contents layers replied v) ≡ moving_of contents layers replied w
        snap_write_waits_is kind live did at has is becomes =
            let m : Moving = moving_of contents layers replied v in
            let h : SnapHeld = held_of contents layers s in
            let test : SnapHeld → Bool = λ (x : SnapHeld). x.snap.number == n in
            let h' : SnapHeld = with_copy (v.copies + 1) (request.range.first / s.state.chunk) h in
            write_found kind live (has_open contents layers request.range.first s did has) None at
            ∙ if_true (needs_none (request.range.first / s.state.chunk) h) (accepted number request Waits m) (if is_filled h then declined Invalid (spoil test h m) else accepted number request Waits (put test h' (record m { started = v.copies + 1 })))
            (yes_of (needs_none (request.range.first / s.state.chunk) h) (lacks request.range.first s) (needs_is contents layers (own_of request.range.first s) s) has)
            ∙ accepted_is v w Waits is becomes

        -- of one that it lacks: a copy is started, and the write waits
        pub snap_write_held_is : (t : Kept B) → kind_of request ≡ SnapWrite n → did_overflow s.overflow ≡ false → published_place s.pairs s.marks (request.range.first / s.state.chunk) ≡ None → IsSized contents s → lacks request.range.first s ≡ true → is_full_of s ≡ false
            → held_of contents layers t ≡ with_copy (v.copies + 1) (request.range.first / s.state.chunk) (held_of contents layers s) → f.route ≡ Waits
            → w ≡ entered_of f (record v { snaps = set v.snaps k t; copies = v.copies + 1 })
            → submitted number request (moving_of contents layers replied v) ≡ moving_of contents layers replied w
        snap_write_held_is t kind did at sized lacking room copy is becomes =
            let m : Moving = moving_of contents layers replied v in
            let h : SnapHeld = held_of contents layers s in
            let test : SnapHeld → Bool = λ (x : SnapHeld). x.snap.number == n in
            let h' : SnapHeld = with_copy (v.copies + 1) (request.range.first / s.state.chunk) h in
            let u : Volumed B = record v { snaps = set v.snaps k t; copies = v.copies + 1 } in
            let live : s.live ≡ true = lacks_live (own_of request.range.first s) s lacking in
            write_found kind live (room_open contents layers request.range.first s did sized lacking room) None at
            ∙ if_false (needs_none (request.range.first / s.state.chunk) h) (accepted number request Waits m) (if is_filled h then declined Invalid (spoil test h m) else accepted number request Waits (put test h' (record m { started = v.copies + 1 })))
            (not_of (needs_none (request.range.first / s.state.chunk) h) (lacks request.range.first s) (needs_is contents layers (own_of request.range.first s) s) lacking)
            ∙ if_false (is_filled h) (declined Invalid (spoil test h m)) (accepted number request Waits (put test h' (record m { started = v.copies + 1 }))) (filled_is contents layers s sized live ∙ room)
            ∙ ap (λ (x : SnapHeld). accepted number request Waits (put test x (record m { started = v.copies + 1 }))) (sym copy)
            ∙ ap (λ (hs : List SnapHeld). accepted number request Waits (record m { snaps = hs; started = v.copies + 1 })) (with_is (held_of contents layers) test k s t v.snaps found)
            ∙ accepted_is u w Waits is becomes

  module _ (replied : Option Reply) (number : ℕ) (request : Request) (v : Volumed B) (n k : ℕ) (s : Kept B) (found : IsFirst (λ (x : Kept B). x.number == n) k s v.snaps) where
    -- a request of a snapshot that is not live
    pub snap_dead_is : (kind_of request ≡ SnapRead n) ⊎ (kind_of request ≡ SnapWrite n) ⊎ (kind_of request ≡ SnapFlush n) → s.live ≡ false → submitted number request (moving_of contents layers replied v) ≡ moving_of contents layers (Some (Declined Invalid)) v
    snap_dead_is kind dead =
        let m : Moving = moving_of contents layers replied v in
        let h : SnapHeld = held_of contents layers s in
        let test : SnapHeld → Bool = λ (x : SnapHeld). x.snap.number == n in
        let c : ℕ = request.range.first / s.state.chunk in
        elim kind [
          | inl read ↦ ap (λ (x : Kind). submitted_as x number request m) read
              ∙ ap (λ (x : Option SnapHeld). for_some x (λ y. read_snap number request y m) (declined Invalid m)) (first_is (held_of contents layers) test k s v.snaps found)
              ∙ if_false s.live (accepted number request (read_route_of (place_of s.pairs c)) m) (declined Invalid m) dead
          | inr other ↦ elim other [
            | inl write ↦ ap (λ (x : Kind). submitted_as x number request m) write
                ∙ ap (λ (x : Option SnapHeld). for_some x (λ y. write_snap number request test y m) (declined Invalid m)) (first_is (held_of contents layers) test k s v.snaps found)
                ∙ if_false (shuts c h) (declined Overflow (put test (overflown h) m)) (write_open number request test h m) (dead_open contents layers request.range.first s dead)
                ∙ if_false s.live (write_placed number request test h (published_place s.pairs s.marks c) m) (declined Invalid m) dead
            | inr flush ↦ ap (λ (x : Kind). submitted_as x number request m) flush
                ∙ ap (λ (x : Option SnapHeld). for_some x (λ y. flush_snap number (kept request) y m) (declined Invalid m)) (first_is (held_of contents layers) test k s v.snaps found)
                ∙ if_false s.live (accepted number (kept request) Whole m) (declined Invalid m) dead
          ]
        ]

    -- a store that is found full: the snapshot is spoiled, its requests are refused, and so is this one
    pub snap_write_full_is : kind_of request ≡ SnapWrite n → s.overflow ≡ Never → published_place s.pairs s.marks (request.range.first / s.state.chunk) ≡ None → IsSized contents s → lacks request.range.first s ≡ true → is_full_of s ≡ true
        → submitted number request (moving_of contents layers replied v) ≡ moving_of contents layers (Some (Declined Invalid)) (record v { snaps = set v.snaps k (spoilt_of s); flights = map (refused_of (s.number ∷ [])) v.flights })
    snap_write_full_is kind never at sized lacking full =
        let m : Moving = moving_of contents layers replied v in
        let h : SnapHeld = held_of contents layers s in
        let test : SnapHeld → Bool = λ (x : SnapHeld). x.snap.number == n in
        let h' : SnapHeld = with_copy (v.copies + 1) (request.range.first / s.state.chunk) h in
        let live : s.live ≡ true = lacks_live (own_of request.range.first s) s lacking in
        ap (λ (x : Kind). submitted_as x number request m) kind
        ∙ ap (λ (x : Option SnapHeld). for_some x (λ y. write_snap number request test y m) (declined Invalid m)) (first_is (held_of contents layers) test k s v.snaps found)
        ∙ if_false (shuts (request.range.first / s.state.chunk) h) (declined Overflow (put test (overflown h) m)) (write_open number request test h m) (never_open contents layers request.range.first s never)
        ∙ if_true s.live (write_placed number request test h (published_place s.pairs s.marks (request.range.first / s.state.chunk)) m) (declined Invalid m) live
        ∙ ap (λ (x : Option ℕ). write_placed number request test h x m) at
        ∙ if_false (needs_none (request.range.first / s.state.chunk) h) (accepted number request Waits m) (if is_filled h then declined Invalid (spoil test h m) else accepted number request Waits (put test h' (record m { started = v.copies + 1 })))
        (not_of (needs_none (request.range.first / s.state.chunk) h) (lacks request.range.first s) (needs_is contents layers (own_of request.range.first s) s) lacking)
        ∙ if_true (is_filled h) (declined Invalid (spoil test h m)) (accepted number request Waits (put test h' (record m { started = v.copies + 1 }))) (filled_is contents layers s sized live ∙ full)
        ∙ ap (declined Invalid) (spoil_is contents layers replied v k s test found v.origin m.origin (spoilt_of s) h refl refl refl)

    -- a live snapshot that takes no write: it is marked, its requests stay, and this one is refused
    pub snap_write_shut_is : kind_of request ≡ SnapWrite n → shuts (request.range.first / s.state.chunk) (held_of contents layers s) ≡ true
        → submitted number request (moving_of contents layers replied v) ≡ moving_of contents layers (Some (Declined Overflow)) (record v { snaps = set v.snaps k (record s { overflow = Did }) })
    snap_write_shut_is kind shut =
        let m : Moving = moving_of contents layers replied v in
        let h : SnapHeld = held_of contents layers s in
        let test : SnapHeld → Bool = λ (x : SnapHeld). x.snap.number == n in
        ap (λ (x : Kind). submitted_as x number request m) kind
        ∙ ap (λ (x : Option SnapHeld). for_some x (λ y. write_snap number request test y m) (declined Invalid m)) (first_is (held_of contents layers) test k s v.snaps found)
        ∙ if_true (shuts (request.range.first / s.state.chunk) h) (declined Overflow (put test (overflown h) m)) (write_open number request test h m) shut
        ∙ ap (λ (hs : List SnapHeld). declined Overflow (record m { snaps = hs })) (with_is (held_of contents layers) test k s (record s { overflow = Did }) v.snaps found)

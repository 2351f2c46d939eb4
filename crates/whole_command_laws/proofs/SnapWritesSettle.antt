-- A write of a snapshot, submitted to a volume at rest, settles to the big step.
use Rattle.std.proofs.Common.{◌≡◌, inl, inr, ℕ, ◌+◌, ◌*◌, ◌/◌, ◌%◌, ◌<◌, ◌≤◌, Bool, true, false, List, [], ◌∷◌, ◌++◌, length, map, Option, Some, None, arith, refl, ap, ◌∙◌, sym, subst, eq-eqb, eqb-true}
use Rattle.std.specs.Prelude.{◌==◌, ◌&&◌, ◌||◌, not, is_some, nat_lt, if◌then◌else◌}
use Rattle.std.specs.List.{All}
use Rattle.std.proofs.lemmas.Bool.{cases_Bool, cond-true, cond-false, true≢false}
use Rattle.sector.specs.Bytes.{with_sectors}
use Rattle.sector.specs.declared.pair.Pair.{Pair}
use Rattle.sector.specs.declared.range.Range.{Range}
use Rattle.device.specs.declared.operation.Operation.TheVariants.{Writes}
use Rattle.chunk.specs.Pieces.{span_of}
use Rattle.plain_machine.specs.declared.request.Request.{Request}
use Rattle.plain_machine.specs.declared.request.Dev.TheVariants.{Snap as ToSnap}
use Rattle.plain_machine.specs.declared.request.Op.TheVariants.{Write}
use Rattle.plain_machine.specs.declared.request.Reply.{Reply}
use Rattle.plain_machine.specs.declared.request.Reply.TheVariants.{Refused as Declined}
use Rattle.plain_machine.specs.declared.request.Failure.TheVariants.{Invalid, Overflow}
use Rattle.plain_machine.specs.Plain.{did_overflow, may_overflow}
use Rattle.cow_format.specs.NextPlace.{stepped}
use Rattle.cow_format.specs.Picture.{place_of}
use Rattle.cow_format.proofs.Pictures.{place-pushed}
use Rattle.in_flight.specs.Due.{least}
use Rattle.in_flight.specs.Routes.{placed_route_of}
use Rattle.in_flight.specs.declared.copies.Stage.TheVariants.{Waiting}
use Rattle.in_flight.specs.declared.copies.Mark.{Mark}
use Rattle.in_flight.specs.declared.flights.Kind.TheVariants.{SnapWrite}
use Rattle.in_flight.specs.declared.flights.Route.{Route}
use Rattle.in_flight.specs.declared.flights.Route.TheVariants.{Held as Waits, Store, Refused}
use Rattle.whole_commands.proofs.Laws.{option_cases}
use Rattle.chunk.proofs.PiecePlaces.{piece_low}
use Rattle.volume_laws.specs.Again.{published_place}
use Rattle.whole_commands.specs.Devices.{Device, met, written_by}
use Rattle.whole_commands.specs.Snaps.{Snap, Volume}
use Rattle.whole_commands.specs.Saving.{Saving, spoilt, next_place, is_full, has_chunk, save}
use Rattle.whole_commands.specs.Pieces.{Answered, shuts, write_snap, write_saved, write_place, in_snap}
use Rattle.event_machine.specs.Held.{SnapHeld, Going, MergeHeld, Moving, with_store, spoiled}
use Rattle.event_machine.specs.Due.{copy_at, least_in}
use Rattle.event_machine.specs.Again.{again}
use Rattle.event_machine.specs.Stepping.{for_some, answer, on_store, write_reply}
use Rattle.event_machine.specs.Submitting.{submitted, accepted, declined, needs_none, is_filled, with_copy, write_placed, shuts as submit_shuts, overflown, write_snap as submit_write}
use Rattle.event_machine.specs.Rest.{IsKept, IsResting, IsAtRest}
use Rattle.event_machine.specs.Settles.{SettlesTo}
use Rattle.whole_commands.proofs.Each.{Each, each_weaker, each_from}
use Rattle.event_machine.proofs.Lists.{here_that, none_least}
use Rattle.whole_command_laws.proofs.Goes.{no_start, Goes, goes_none, goes_on}
use Rattle.event_machine.proofs.Around.{at, at_with, at_alone, IsIdle, IsLater, idle_later, IsBefore, idle_before}
use Rattle.whole_command_laws.proofs.Stages.{put_here, marks_here}
use Rattle.whole_command_laws.proofs.Ends.{unstarted, Ends, IsUnread, requests_after, ends_read}
use Rattle.whole_commands.proofs.Saves.{saves_nothing, saves_full, saves_copy, chunk_read}
use Rattle.whole_command_laws.proofs.Resting.{rests_live, saved_snap, saved_chunk, saved_number}
use Rattle.event_machine.proofs.Clears.{and_last}
use Rattle.whole_command_laws.proofs.Primed.{tried_of, resting_idle}
use Rattle.whole_command_laws.proofs.Starts.{needs_same, next_same, copy_bytes, as_holding}
use Rattle.event_machine.proofs.Found.{split_at, none_that, served_nowhere}
use Rattle.whole_command_laws.proofs.Issued.{mine_of, issued, answered_here, Serves, serves_there, serves_settles}
use Rattle.whole_command_laws.proofs.Served.{snap_of, each_first, each_here, each_last, each_joined, served_by}
use Rattle.whole_command_laws.proofs.ReadsSettle.{goes_to}
use Rattle.whole_command_laws.proofs.PlaceRests.{place_rests}

abbrev pub snap_write_request : ℕ → Range → List ℕ → Request
snap_write_request n range bytes = record { dev = ToSnap n; op = Write bytes; range = range }

module _ (g : Option MergeHeld) (sectors number n : ℕ) (range : Range) (bytes : List ℕ) where
  abbrev routed : Route → Going
  routed route = record { number = number; request = snap_write_request n range bytes; route = route }

  abbrev is_this : SnapHeld → Bool
  is_this h = h.snap.number == n

  -- where the write goes in a snapshot's store
  abbrev place_first : SnapHeld → ℕ → ℕ
  place_first h place = h.snap.chunk * place + range.first % h.snap.chunk

  abbrev after_place : SnapHeld → ℕ → SnapHeld
  after_place h place = with_store h (written_by h.snap.store (Writes (place_first h place) range.count) (with_sectors h.snap.store.bytes (place_first h place) bytes))

  abbrev place_reply : SnapHeld → ℕ → Reply
  place_reply h place = write_reply h.snap.store (place_first h place) range.count

  -- a write that is routed to its chunk's place
  place_goes : (origin : Device) (done rest : List SnapHeld) (h : SnapHeld) (place : ℕ) (a : Option Reply) (k : ℕ) → Each IsIdle (done ++ h ∷ rest) → Each (λ d. is_this d ≡ false) done → is_this h ≡ true →
      Goes no_start (at_with g origin (done ++ h ∷ rest) (routed (Store place) ∷ []) a k) (at_with g origin (done ++ after_place h place ∷ rest) [] (Some (place_reply h place)) k)
  place_goes origin done rest h place a k idle before pass =
      let r : Going = routed (Store place) in
      let v : Moving = at_with g origin (done ++ h ∷ rest) (r ∷ []) a k in
      goes_to _ _ _ (issued g origin (done ++ h ∷ rest) r a k idle refl)
      (ap (λ o. for_some o (λ x. on_store (Write bytes) (x.snap.chunk * place + range.first % x.snap.chunk) range.count (mine_of r) is_this x v) v) (here_that is_this done rest h before pass)
      ∙ ap (answer (mine_of r) (place_reply h place)) (put_here g origin done rest (r ∷ []) a k is_this h before pass (after_place h place))
      ∙ answered_here g origin (done ++ after_place h place ∷ rest) r (place_reply h place) a k)

  -- a write whose snapshot was spoiled
  refused_goes : (origin : Device) (snaps : List SnapHeld) (a : Option Reply) (k : ℕ) → Each IsIdle snaps → Goes no_start (at_with g origin snaps (routed Refused ∷ []) a k) (at_with g origin snaps [] (Some (Declined Invalid)) k)
  refused_goes origin snaps a k idle = goes_to _ _ _ (issued g origin snaps (routed Refused) a k idle refl) (answered_here g origin snaps (routed Refused) (Declined Invalid) a k)

  -- what the big step does of a write that the snapshot takes, by what saving the chunk leaves
  saved_is : (origin : Device) (s : Snap) (x : Saving) → shuts (range.first / s.chunk) s ≡ false → save (range.first / s.chunk) origin s ≡ x → write_snap (span_of range) bytes origin s ≡ write_saved (span_of range) bytes x
  saved_is origin s x takes is = cond-false _ _ _ takes ∙ ap (write_saved (span_of range) bytes) is

  saved_dead : (x : Saving) → x.snap.live ≡ false → write_saved (span_of range) bytes x ≡ record { state = x; reply = Declined Invalid }
  saved_dead x out = cond-false _ _ _ out

  saved_there : (x : Saving) (h : SnapHeld) (place : ℕ) → h.snap ≡ x.snap → h.snap.live ≡ true → IsKept sectors h → place_of h.pairs (range.first / h.snap.chunk) ≡ Some place → write_saved (span_of range) bytes x ≡ record { state = record { origin = x.origin; snap = (after_place h place).snap }; reply = place_reply h place }
  saved_there x h place same on kept some =
      let y : Saving = record { origin = x.origin; snap = h.snap } in
      let with_snap : Snap → Saving = λ (s : Snap). record { origin = x.origin; snap = s } in
      ap (λ (s : Snap). write_saved (span_of range) bytes (with_snap s)) (sym same) ∙ cond-true _ _ _ on
      ∙ ap (write_place (span_of range) bytes x.origin h.snap) (ap (λ ps. place_of ps (range.first / h.snap.chunk)) kept.pairs ∙ some)

  module _ (origin : Device) (a : Option Reply) (k : ℕ) (whole : length origin.bytes ≡ 512 * sectors) (inside : range.first < sectors) (len : length bytes ≡ 512 * range.count) where
    abbrev write_begun : List SnapHeld → Moving
    write_begun snaps = submitted number (snap_write_request n range bytes) (at_with g origin snaps [] a k)

    abbrev WriteServes : List SnapHeld → Type 0
    WriteServes snaps = Serves sectors g (write_begun snaps) (in_snap n (write_snap (span_of range) bytes) origin (map snap_of snaps))

    nowhere : (snaps : List SnapHeld) → Each (IsResting sectors) snaps → Each (λ h. is_this h ≡ false) snaps → WriteServes snaps
    nowhere snaps rest none =
        serves_there sectors g (write_begun snaps) (at_with g origin snaps [] (Some (Declined Invalid)) k) origin snaps (Declined Invalid) k _
        (ap (λ o. for_some o (λ h. submit_write number (snap_write_request n range bytes) is_this h (at_with g origin snaps [] a k)) (declined Invalid (at_with g origin snaps [] a k))) (none_that is_this snaps none))
        (goes_none _) whole rest (served_nowhere n (write_snap (span_of range) bytes) origin snaps none)

    module _ (done rest : List SnapHeld) (h : SnapHeld) (all : Each (IsResting sectors) (done ++ h ∷ rest)) (before : Each (λ d. is_this d ≡ false) done) (pass : is_this h ≡ true) (piece : range.first + range.count ≤ h.snap.chunk * (range.first / h.snap.chunk) + h.snap.chunk) where
      abbrev c : ℕ
      c = range.first / h.snap.chunk

      here : IsResting sectors h
      here = each_here (IsResting sectors) done rest h all

      idle : Each IsIdle (done ++ h ∷ rest)
      idle = each_weaker (IsResting sectors) IsIdle (done ++ h ∷ rest) (resting_idle sectors) all

      idle_done : Each IsIdle done
      idle_done = each_weaker (IsResting sectors) IsIdle done (resting_idle sectors) (each_first (IsResting sectors) done rest h all)

      idle_rest : Each IsIdle rest
      idle_rest = each_weaker (IsResting sectors) IsIdle rest (resting_idle sectors) (each_last (IsResting sectors) done rest h all)

      begun : write_begun (done ++ h ∷ rest) ≡ submit_write number (snap_write_request n range bytes) is_this h (at_with g origin (done ++ h ∷ rest) [] a k)
      begun = ap (λ o. for_some o (λ x. submit_write number (snap_write_request n range bytes) is_this x (at_with g origin (done ++ h ∷ rest) [] a k)) (declined Invalid (at_with g origin (done ++ h ∷ rest) [] a k))) (here_that is_this done rest h before pass)

      full_same : h.snap.live ≡ true → is_filled h ≡ is_full h.snap
      full_same on = ap (λ x. nat_lt (length h.snap.store.bytes) (512 * (h.snap.chunk * (x + 1)))) (next_same sectors h (here.live on))

      -- the two machines shut out the same writes
      shuts_if : Bool → Bool → Bool → Bool
      shuts_if live there full = live && (did_overflow h.snap.overflow || (may_overflow h.snap.overflow && (not there && full)))

      shuts_same : submit_shuts c h ≡ shuts c h.snap
      unfolding shuts_if
      shuts_same = elim (cases_Bool h.snap.live) [
        | inr out ↦ (let is : shuts_if h.snap.live (needs_none c h) (is_filled h) ≡ shuts_if h.snap.live (has_chunk c h.snap) (is_full h.snap) =
            ap (λ b. shuts_if b (needs_none c h) (is_filled h)) out ∙ sym (ap (λ b. shuts_if b (has_chunk c h.snap) (is_full h.snap)) out) in is)
        | inl on ↦ (let is : shuts_if h.snap.live (needs_none c h) (is_filled h) ≡ shuts_if h.snap.live (has_chunk c h.snap) (is_full h.snap) =
            ap (λ x. shuts_if h.snap.live x (is_filled h)) (needs_same sectors c h here ∙ ap (λ b. not b || has_chunk c h.snap) on) ∙ ap (shuts_if h.snap.live (has_chunk c h.snap)) (full_same on) in is)
      ]

      -- one whose store overflowed, or overflows now
      shut_rests : IsResting sectors (overflown h)
      shut_rests = record {
        tried = here.tried;
        copies = here.copies;
        marks = here.marks;
        live = λ live. (let kept = here.live live in record { order = kept.order; pairs = kept.pairs; next = kept.next; zeroed = kept.zeroed; firm = kept.firm; unmarked = kept.unmarked });
      }

      write_shut : submit_shuts c h ≡ true → WriteServes (done ++ h ∷ rest)
      write_shut shut =
          let reply : Reply = Declined Overflow in
          served_by sectors g n (write_snap (span_of range) bytes) origin origin done rest h (overflown h) reply k _ (at_with g origin (done ++ overflown h ∷ rest) [] (Some reply) k) before pass all shut_rests whole
          (cond-true _ _ _ (sym shuts_same ∙ shut))
          (begun ∙ cond-true _ _ _ shut ∙ ap (declined Overflow) (put_here g origin done rest [] a k is_this h before pass (overflown h))) (goes_none _)

      if_some : (o : Option ℕ) → (if is_some o && not false then o else None) ≡ o
      if_some None = refl
      if_some (Some p) = refl

      -- without marks each chunk that it has is published
      published_rest : (ps : List Pair) (ms : List Mark) (x : ℕ) → ms ≡ [] → published_place ps ms x ≡ place_of ps x
      published_rest ps ms x none = ap (λ (m : List Mark). published_place ps m x) none ∙ if_some (place_of ps x)

      -- by the place of the chunk
      by_place : (o : Option ℕ) → submit_shuts c h ≡ false → h.snap.live ≡ true → place_of h.pairs c ≡ o → write_begun (done ++ h ∷ rest) ≡ write_placed number (snap_write_request n range bytes) is_this h o (at_with g origin (done ++ h ∷ rest) [] a k)
      by_place o takes on is = begun ∙ cond-false _ _ _ takes ∙ cond-true _ _ _ on ∙ ap (λ x. write_placed number (snap_write_request n range bytes) is_this h x (at_with g origin (done ++ h ∷ rest) [] a k)) (published_rest h.pairs h.marks c here.marks ∙ is)

      takes_same : submit_shuts c h ≡ false → shuts c h.snap ≡ false
      takes_same takes = sym shuts_same ∙ takes

      -- a snapshot that is not live
      write_dead : submit_shuts c h ≡ false → h.snap.live ≡ false → WriteServes (done ++ h ∷ rest)
      write_dead takes out =
          let x : Saving = record { origin = origin; snap = h.snap } in
          served_by sectors g n (write_snap (span_of range) bytes) origin origin done rest h h (Declined Invalid) k _ (at_with g origin (done ++ h ∷ rest) [] (Some (Declined Invalid)) k) before pass all here whole
          (saved_is origin h.snap x (takes_same takes) (saves_nothing c origin h.snap (rw out refl)) ∙ saved_dead x out) (begun ∙ cond-false _ _ _ takes ∙ cond-false _ _ _ out) (goes_none _)

      has_same : (o : Option ℕ) → h.snap.live ≡ true → place_of h.pairs c ≡ o → has_chunk c h.snap ≡ is_some o
      has_same o on is = ap (λ ps. is_some (place_of ps c)) (here.live on).pairs ∙ ap is_some is

      -- one that has the chunk
      write_stored : (place : ℕ) → submit_shuts c h ≡ false → h.snap.live ≡ true → place_of h.pairs c ≡ Some place → WriteServes (done ++ h ∷ rest)
      write_stored place takes on some =
          let x : Saving = record { origin = origin; snap = h.snap } in
          served_by sectors g n (write_snap (span_of range) bytes) origin origin done rest h (after_place h place) (place_reply h place) k _ (at_with g origin (done ++ h ∷ rest) (routed (Store place) ∷ []) a k) before pass all
          (place_rests sectors place range.first range.count bytes h here on some piece len) whole
          (saved_is origin h.snap x (takes_same takes) (saves_nothing c origin h.snap (rw (on, has_same (Some place) on some) refl)) ∙ saved_there x h place refl on (here.live on) some)
          (by_place (Some place) takes on some) (place_goes origin done rest h place a k idle before pass)

      lacks : h.snap.live ≡ true → place_of h.pairs c ≡ None → (not h.snap.live || has_chunk c h.snap) ≡ false
      lacks on none = rw (on, has_same None on none) refl

      lacks_copy : h.snap.live ≡ true → place_of h.pairs c ≡ None → needs_none c h ≡ false
      lacks_copy on none = needs_same sectors c h here ∙ lacks on none

      -- one whose store is full
      write_full : submit_shuts c h ≡ false → h.snap.live ≡ true → place_of h.pairs c ≡ None → is_filled h ≡ true → WriteServes (done ++ h ∷ rest)
      write_full takes on none filled =
          let x : Saving = record { origin = origin; snap = spoilt h.snap } in
          let reply : Reply = Declined Invalid in
          let v : Moving = at_with g origin (done ++ spoiled h ∷ rest) [] (Some reply) k in
          served_by sectors g n (write_snap (span_of range) bytes) origin origin done rest h (tried_of h) reply k _ v before pass all
          (record { tried = refl; copies = refl; marks = refl; live = λ live. absurd (true≢false (sym live)) }) whole
          (saved_is origin h.snap x (takes_same takes) (saves_full c origin h.snap (lacks on none) (sym (full_same on) ∙ filled)) ∙ saved_dead x refl)
          (by_place None takes on none ∙ cond-false _ _ _ (lacks_copy on none) ∙ cond-true _ _ _ filled ∙ ap (declined Invalid) (put_here g origin done rest [] a k is_this h before pass (spoiled h)))
          (marks_here g origin done rest [] (Some reply) k h (here.live on).unmarked (each_weaker IsIdle IsLater done idle_later idle_done) (each_weaker IsIdle IsLater rest idle_later idle_rest))

      -- one that copies the chunk first
      unread : IsUnread (routed Waits ∷ [])
      unread g d = ap (λ b. b || false) (and_last ((range.first / g.snap.chunk) == d) false refl)

      abbrev q : Pair
      q = record { old = c; new = next_place h.snap }

      abbrev saving : Saving
      saving = record { origin = met origin (chunk_read c origin h.snap); snap = saved_snap sectors c origin h h }

      abbrev CopyEnds : Type 0
      CopyEnds = Ends no_start g done rest (routed Waits ∷ []) a (k + 1) (met origin (chunk_read c origin h.snap)) (at_with g origin (done ++ with_copy (k + 1) c h ∷ rest) (routed Waits ∷ []) a (k + 1)) (h.pairs ++ q ∷ []) (stepped h.snap.chunk (next_place h.snap + 1)) (saved_snap sectors c origin h h)

      copy_ends : h.snap.live ≡ true → place_of h.pairs c ≡ None → CopyEnds
      copy_ends on none =
          let kept : IsKept sectors h = here.live on in
          let low : least_in (copy_at Waiting) rest ≡ None = none_least (copy_at Waiting) rest (each_weaker IsIdle (λ d. copy_at Waiting d ≡ None) rest (λ d i. rw i.copies refl) idle_rest) in
          subst (λ (w : SnapHeld). Ends no_start g done rest (routed Waits ∷ []) a (k + 1) (met origin (chunk_read c origin h.snap)) (at_with g origin (done ++ w ∷ rest) (routed Waits ∷ []) a (k + 1)) (h.pairs ++ q ∷ []) (stepped h.snap.chunk (next_place h.snap + 1)) (saved_snap sectors c origin h h))
          (sym (as_holding sectors c (k + 1) h here kept))
          (ends_read no_start g done rest (routed Waits ∷ []) a (k + 1) (k + 1) q h.pairs (stepped h.snap.chunk (next_place h.snap + 1)) (each_weaker IsIdle (IsBefore (k + 1)) done (idle_before (k + 1)) idle_done) (each_weaker IsIdle IsLater rest idle_later idle_rest) unread origin h.snap kept.order.1.some on kept.pairs
          (copy_bytes sectors origin h.snap c (next_place h.snap) whole) (ap (least (Some (k + 1))) low))

      -- the snapshot once its copy came to its end
      module _ (takes : submit_shuts c h ≡ false) (on : h.snap.live ≡ true) (none : place_of h.pairs c ≡ None) (filled : is_filled h ≡ false) (e : CopyEnds) where
        copied_chunk : e.held.snap.chunk ≡ h.snap.chunk
        copied_chunk = ap (λ (t : Snap). t.chunk) e.snap ∙ saved_chunk sectors c origin h h

        copied_this : is_this e.held ≡ true
        copied_this = ap (λ x. x == n) (ap (λ (t : Snap). t.number) e.snap ∙ saved_number sectors c origin h h) ∙ pass

        has_room : is_full h.snap ≡ false
        has_room = sym (full_same on) ∙ filled

        copied_rests : IsResting sectors e.held
        copied_rests =
            let low : h.snap.chunk * c ≤ range.first = piece_low h.snap.chunk range.first in
            record {
              tried = e.idle.tried;
              copies = e.idle.copies;
              marks = e.idle.marks;
              live = λ live. rests_live sectors c origin h e.held whole (here.live on) on (omega arith) (has_same None on none) has_room e.snap (e.pairs live) (e.next live) (e.zeroed live) (e.firm live) (e.unmarked live) live;
            }

        copied_idle : Each IsIdle (done ++ e.held ∷ rest)
        copied_idle = each_joined IsIdle done rest e.held idle_done (resting_idle sectors e.held copied_rests) idle_rest

        copied_begun : write_begun (done ++ h ∷ rest) ≡ at_with g origin (done ++ with_copy (k + 1) c h ∷ rest) (routed Waits ∷ []) a (k + 1)
        copied_begun = by_place None takes on none ∙ cond-false _ _ _ (lacks_copy on none) ∙ cond-false _ _ _ filled ∙ ap (accepted number (snap_write_request n range bytes) Waits) (put_here g origin done rest [] a (k + 1) is_this h before pass (with_copy (k + 1) c h))

        copied_saved : write_snap (span_of range) bytes origin h.snap ≡ write_saved (span_of range) bytes saving
        copied_saved = saved_is origin h.snap saving (takes_same takes) (saves_copy c origin h.snap (lacks on none) has_room)

        abbrev copied_after : List SnapHeld
        copied_after = done ++ e.held ∷ rest

        goes_routed : (route : Route) → requests_after g copied_after e.held (routed Waits ∷ []) ≡ routed route ∷ [] → Goes no_start (at_with g origin (done ++ with_copy (k + 1) c h ∷ rest) (routed Waits ∷ []) a (k + 1)) (at_with g (met origin (chunk_read c origin h.snap)) copied_after (routed route ∷ []) a (k + 1))
        goes_routed route is = goes_to _ _ _ e.goes (unstarted e.held.snap.live _ ∙ ap (λ rs. at_with g (met origin (chunk_read c origin h.snap)) copied_after rs a (k + 1)) is)

        -- it was spoiled
        routed_refused : e.held.snap.live ≡ false → requests_after g copied_after e.held (routed Waits ∷ []) ≡ routed Refused ∷ []
        routed_refused out =
            ap (λ (f : Going → Going). map (again g copied_after) (map f (routed Waits ∷ []))) (cond-false _ _ _ out)
            ∙ ap (λ b. again g copied_after (routed (if b || false then Refused else Waits)) ∷ []) copied_this

        copied_dead : e.held.snap.live ≡ false → WriteServes (done ++ h ∷ rest)
        copied_dead out =
            let reply : Reply = Declined Invalid in
            let O : Device = met origin (chunk_read c origin h.snap) in
            let dead : saving.snap.live ≡ false = sym (ap (λ (t : Snap). t.live) e.snap) ∙ out in
            let with_snap : Snap → Answered Saving = λ (t : Snap). record { state = record { origin = O; snap = t }; reply = reply } in
            served_by sectors g n (write_snap (span_of range) bytes) origin O done rest h e.held reply (k + 1) _ _ before pass all copied_rests whole
            (copied_saved ∙ saved_dead saving dead ∙ ap with_snap (sym e.snap)) copied_begun
            (goes_on _ _ _ (goes_routed Refused (routed_refused out)) (refused_goes O copied_after a (k + 1) copied_idle))

        -- it was published
        module _ (live : e.held.snap.live ≡ true) where
          copied_place : place_of e.held.pairs (range.first / e.held.snap.chunk) ≡ Some (next_place h.snap)
          copied_place = ap (λ x. place_of e.held.pairs (range.first / x)) copied_chunk ∙ ap (λ ps. place_of ps c) (e.pairs live) ∙ place-pushed h.pairs q c none refl

          published_is : (ps : List Pair) (ms : List Mark) (x p : ℕ) → ms ≡ [] → place_of ps x ≡ Some p → published_place ps ms x ≡ Some p
          published_is ps ms x p none_marked placed_at = rw (none_marked, placed_at) refl

          this_again : (n == e.held.snap.number) ≡ true
          this_again = eq-eqb n e.held.snap.number (sym (eqb-true e.held.snap.number n copied_this))

          routed_place : requests_after g copied_after e.held (routed Waits ∷ []) ≡ routed (Store (next_place h.snap)) ∷ []
          routed_place =
              ap (λ (f : Going → Going). map (again g copied_after) (map f (routed Waits ∷ []))) (cond-true _ _ _ live)
              ∙ ap (λ o. again g copied_after (routed (placed_route_of e.held.snap.number (SnapWrite n) Waits o)) ∷ []) (published_is e.held.pairs e.held.marks (range.first / e.held.snap.chunk) (next_place h.snap) e.idle.marks copied_place)
              ∙ ap (λ b. again g copied_after (routed (if b then Store (next_place h.snap) else Waits)) ∷ []) this_again

          copied_live : WriteServes (done ++ h ∷ rest)
          copied_live =
              let O : Device = met origin (chunk_read c origin h.snap) in
              let place : ℕ = next_place h.snap in
              let fits : range.first + range.count ≤ e.held.snap.chunk * (range.first / e.held.snap.chunk) + e.held.snap.chunk = subst (λ (x : ℕ). range.first + range.count ≤ x * (range.first / x) + x) (sym copied_chunk) piece in
              served_by sectors g n (write_snap (span_of range) bytes) origin O done rest h (after_place e.held place) (place_reply e.held place) (k + 1) _ _ before pass all
              (place_rests sectors place range.first range.count bytes e.held copied_rests live copied_place fits len) whole
              (copied_saved ∙ saved_there saving e.held place e.snap live (copied_rests.live live) copied_place) copied_begun
              (goes_on _ _ _ (goes_routed (Store place) routed_place) (place_goes O done rest e.held place a (k + 1) copied_idle before copied_this))

        copied_settles : WriteServes (done ++ h ∷ rest)
        copied_settles = elim (cases_Bool e.held.snap.live) [ inl live ↦ copied_live live | inr out ↦ copied_dead out ]

      write_copied : submit_shuts c h ≡ false → h.snap.live ≡ true → place_of h.pairs c ≡ None → is_filled h ≡ false → WriteServes (done ++ h ∷ rest)
      write_copied takes on none filled = copied_settles takes on none filled (copy_ends on none)

      write_here : WriteServes (done ++ h ∷ rest)
      write_here = elim (cases_Bool (submit_shuts c h)) [
        | inl shut ↦ write_shut shut
        | inr takes ↦ elim (cases_Bool h.snap.live) [
          | inr out ↦ write_dead takes out
          | inl on ↦ elim (option_cases (place_of h.pairs c)) [
            | inr some ↦ write_stored some.0 takes on some.1
            | inl none ↦ elim (cases_Bool (is_filled h)) [ inl filled ↦ write_full takes on none filled | inr room ↦ write_copied takes on none room ]
          ]
        ]
      ]

    pub snap_write_serves : (snaps : List SnapHeld) → Each (IsResting sectors) snaps → Each (λ h. range.first + range.count ≤ h.snap.chunk * (range.first / h.snap.chunk) + h.snap.chunk) snaps → WriteServes snaps
    snap_write_serves snaps rest pieces = elim (split_at is_this snaps) [
      | inl none ↦ nowhere snaps rest none
      | inr s ↦ subst WriteServes (sym s.is)
          (write_here s.done s.rest s.here (subst (Each (IsResting sectors)) s.is rest) s.before s.pass
          (each_here (λ h. range.first + range.count ≤ h.snap.chunk * (range.first / h.snap.chunk) + h.snap.chunk) s.done s.rest s.here (subst (Each (λ h. range.first + range.count ≤ h.snap.chunk * (range.first / h.snap.chunk) + h.snap.chunk)) s.is pieces)))
    ]

-- the range lies inside one chunk of each snapshot
pub snap_write_settles : (sectors number n : ℕ) (range : Range) (bytes : List ℕ) (v : Moving) → IsAtRest sectors v → range.first < sectors → length bytes ≡ 512 * range.count → All (λ (h : SnapHeld). range.first + range.count ≤ h.snap.chunk * (range.first / h.snap.chunk) + h.snap.chunk) v.snaps →
    SettlesTo sectors (submitted number (snap_write_request n range bytes) v) (in_snap n (write_snap (span_of range) bytes) v.origin (map snap_of v.snaps))
snap_write_settles sectors number n range bytes v rest inside len pieces =
    let answer : Answered Volume = in_snap n (write_snap (span_of range) bytes) v.origin (map snap_of v.snaps) in
    let Settles : Moving → Type 0 = λ (w : Moving). SettlesTo sectors (submitted number (snap_write_request n range bytes) w) answer in
    subst Settles (sym (at_alone v rest.alone))
    (subst (λ (rs : List Going). Settles (at v.origin v.snaps rs v.replied v.started)) (sym rest.requests)
    (serves_settles sectors _ answer (snap_write_serves None sectors number n range bytes v.origin v.replied v.started rest.whole inside len v.snaps (each_from (IsResting sectors) v.snaps rest.snaps)
    (each_from (λ (h : SnapHeld). range.first + range.count ≤ h.snap.chunk * (range.first / h.snap.chunk) + h.snap.chunk) v.snaps pieces))))

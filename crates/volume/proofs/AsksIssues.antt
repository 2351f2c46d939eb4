-- What an Issue asks, by its request's route, and that its device has those sectors: once it did that ahead, what was told of it is
-- told of the event.
use Rattle.std.proofs.Common.{◌≡◌, inl, inr, ℕ, ◌+◌, ◌*◌, ◌%◌, ◌<◌, ◌≤◌, Bool, true, false, List, ◌++◌, Option, Some, None, length, get_or, map, nat_eq, eq-eqb, refl, sym, ◌∙◌, ap, subst, arith}
use Rattle.std.specs.Prelude.{◌==◌, ◌&&◌, not}
use Rattle.std.specs.List.{position}
use Rattle.std.proofs.lemmas.Bool.{eqb-true, false≢true, ltb-false}
use Rattle.std.proofs.lemmas.List.{get_or_default}
use Rattle.device.specs.CanDoAhead.{CanDoAhead}
use Rattle.device.specs.Layers.{Layer, fate, is_answered}
use Rattle.device.specs.declared.operation.Operation.{Operation}
use Rattle.device.specs.declared.operation.Operation.TheVariants.{Flushes}
use Rattle.plain_machine.specs.declared.event.Event.TheVariants.{Issue}
use Rattle.plain_machine.specs.declared.request.Dev.TheVariants.{Origin as ToOrigin, Snap as ToSnap}
use Rattle.plain_machine.specs.declared.request.Op.{Op}
use Rattle.plain_machine.specs.declared.request.Op.TheVariants.{Read as ReadOp, Write as WriteOp, Flush as FlushOp}
use Rattle.cow_format.specs.Picture.{place_of}
use Rattle.in_flight.specs.Due.{is_routed}
use Rattle.in_flight.specs.declared.flights.Flight.{Flight}
use Rattle.in_flight.specs.declared.flights.Route.{Route}
use Rattle.in_flight.specs.declared.flights.Route.TheVariants.{Held as Waits, Origin as AtOrigin, Store as AtStore, Whole, Refused}
use Rattle.volume_laws.specs.Held.{RequestHolds}
use Rattle.whole_commands.specs.Devices.{answers}
use Rattle.whole_commands.proofs.PictureSectors.{place_inside}
use Rattle.event_machine.specs.Held.{SnapHeld, Going, Moving}
use Rattle.event_machine.specs.Due.{is_issuable}
use Rattle.event_machine.specs.MergeSeen.{held_in}
use Rattle.event_machine.specs.Seen.{going_of}
use Rattle.event_machine.specs.Stepping.{first_that}
use Rattle.snapshot.specs.Kept.{Kept}
use Rattle.merge.specs.Lists.{released_of}
use Rattle.merge.specs.Merging.{Merging}
use Rattle.volume.specs.Answered.{has_passed, if_some, store_answers, reads_many, operation_of, route_answers, place_answers, flush_answers, is_told}
use Rattle.volume.specs.Asks.{Asks, Tells}
use Rattle.volume.specs.DoesAhead.{AreAhead}
use Rattle.volume.specs.Lasting.{IsKept}
use Rattle.volume.specs.Moved.{held_of, merge_seen, moving_of}
use Rattle.volume.specs.Volumed.{Volumed, is_due_of}
use Rattle.volume.specs.declared.ahead.Ask.TheVariants.{Nobody, TooMany, Origin, Store, Merging as ToMerging}
use Rattle.volume.proofs.AsksEvents.{t_is, any_default, found_told}
use Rattle.volume.proofs.AsksReads.{text, store_is, stays}
use Rattle.volume.proofs.DueBeside.{own_due}
use Rattle.volume.proofs.IssueEvents.{request_at}
use Rattle.volume.proofs.Issued.{issued_at, issued_none}
use Rattle.volume.proofs.MergingIssues.{lies_within, read_placed as merging_read_placed, write_placed as merging_write_placed, unflushed as merging_unflushed}
use Rattle.volume.proofs.MovedFound.{flight_first}
use Rattle.volume.proofs.MovedIssues.{issuable_first}
use Rattle.volume.proofs.MovedLists.{first_is}
use Rattle.volume.proofs.Peeked.{place_high, places_inside}
use Rattle.volume.proofs.StoreIssues.{alive, read_part, read_placed, snap_reads, snap_writes, unflushed, write_part, write_placed}
use Rattle.snapshot_list.proofs.Finds.{position_within}

-- a merge that is begun
pub some_merge : {B : Type 0} (o : Option (Merging B)) → (o ≡ None → ⊥) → (m : Merging B) × (o ≡ Some m)
some_merge None begun = absurd (begun refl)
some_merge (Some m) begun = (m, refl)

-- a request's operation can be done ahead on sectors of a device that lie in it
operation_can : (op : Op) (size first count : ℕ) → reads_many op count ≡ false → 0 < count → first + count ≤ size → CanDoAhead size (operation_of op first count)
operation_can ReadOp size first count few some inside = (some, ltb-false 1024 count few, inside)
operation_can (WriteOp bytes) size first count few some inside = tt
operation_can FlushOp size first count few some inside = tt

-- and what is told of it is whether the device answers it
operation_tells : (op : Op) (first count : ℕ) (l : List Layer) (told : Bool) → Tells (operation_of op first count) l told → told ≡ is_answered (fate l (operation_of op first count))
operation_tells ReadOp first count l told tells = tells
operation_tells (WriteOp bytes) first count l told tells = tells first count
operation_tells FlushOp first count l told tells = tells

module _ {B : Type 0} (holds : B → ℕ → List ℕ → Type 0) (contents : B → List ℕ) (layers : B → List Layer) (size faults done : B → ℕ) (law : (d : B) → length (contents d) ≡ 512 * size d) (v : Volumed B) (kept : IsKept holds contents layers size v)
    (n : ℕ) where
  -- no request has the number
  pub none_undue : position (λ (f : Flight). nat_eq f.number n) v.flights ≡ None → is_due_of contents layers v (Issue n) ≡ true → ⊥
  none_undue none due = false≢true (sym (issued_none n v.flights none) ∙ sym (own_due contents layers v (Issue n) (λ xs d. refl)) ∙ due)

  module _ (j : ℕ) (r : Flight) (found : position (λ (f : Flight). nat_eq f.number n) v.flights ≡ Some j) (r_is : r ≡ get_or v.flights j r) where
    in_list : j < length v.flights
    in_list = position_within (λ (f : Flight). nat_eq f.number n) v.flights j found

    routed : is_due_of contents layers v (Issue n) ≡ true → is_routed r.route ≡ true
    routed due = sym (issued_at n v.flights j r r.route found (ap (λ (f : Flight). f.route) (sym r_is))) ∙ sym (own_due contents layers v (Issue n) (λ xs d. refl)) ∙ due

    requested : RequestHolds (size v.origin) r
    requested = request_at contents layers size v kept.whole j r in_list r_is

    issue_told : (w : Volumed B) → AreAhead holds contents layers size faults done v w → is_routed r.route ≡ true
        → is_told (Issue n) (moving_of contents layers None w) ≡ (not (reads_many r.request.op r.request.range.count) && route_answers r.route (going_of r) (moving_of contents layers None w))
    issue_told w a goes =
        let after : Moving = moving_of contents layers None w in
        let test : Going → Bool = λ (k : Going). (k.number == n) && is_issuable k in
        let flights : w.flights ≡ v.flights = ap (λ (x : Volumed B). x.flights) a.becomes in
        ap (λ (fs : List Flight). if_some (first_that (λ (k : Going). (k.number == n) && is_issuable k) (map going_of fs)) (λ (k : Going). not (reads_many k.request.op k.request.range.count) && route_answers k.route k after)) flights
        ∙ ap (λ (o : Option Going). if_some o (λ (k : Going). not (reads_many k.request.op k.request.range.count) && route_answers k.route k after))
        (first_is going_of test j r v.flights (issuable_first n j r v.flights (flight_first n j r v.flights found r_is) goes))

    -- it is not issued
    pub held_undue : r.route ≡ Waits → is_due_of contents layers v (Issue n) ≡ true → ⊥
    held_undue is due = false≢true (sym (ap is_routed is) ∙ routed due)

    -- it reads more than is read ahead
    pub many_asks : reads_many r.request.op r.request.range.count ≡ true → is_due_of contents layers v (Issue n) ≡ true → Asks holds contents layers size faults done (Issue n) TooMany v
    many_asks many due = (
      tt,
      λ w a. issue_told w a (routed due) ∙ ap (λ b. not b && route_answers r.route (going_of r) (moving_of contents layers None w)) many,
      ap (λ (o : Option Going). has_passed o (λ (k : Going). reads_many k.request.op k.request.range.count))
          (first_is going_of (λ (k : Going). (k.number == n) && is_issuable k) j r v.flights (issuable_first n j r v.flights (flight_first n j r v.flights found r_is) (routed due)))
          ∙ many,
    )

    module _ (few : reads_many r.request.op r.request.range.count ≡ false) where
      few_told : (w : Volumed B) → AreAhead holds contents layers size faults done v w → (route : Route) → r.route ≡ route → is_routed route ≡ true → is_told (Issue n) (moving_of contents layers None w) ≡ route_answers route (going_of r) (moving_of contents layers None w)
      few_told w a route is goes =
          let after : Moving = moving_of contents layers None w in
          issue_told w a (ap is_routed is ∙ goes)
          ∙ ap (λ b. not b && route_answers r.route (going_of r) after) few
          ∙ ap (λ x. route_answers x (going_of r) after) is

      -- it is refused without an operation
      pub refused_asks : r.route ≡ Refused → Asks holds contents layers size faults done (Issue n) Nobody v
      refused_asks is = (tt, λ w a. few_told w a Refused is refl)

      -- the origin disk
      pub disk_asks : r.route ≡ AtOrigin → Asks holds contents layers size faults done (Issue n) (Origin (operation_of r.request.op r.request.range.first r.request.range.count)) v
      disk_asks is = (
        tt,
        operation_can r.request.op (size v.origin) r.request.range.first r.request.range.count few requested.some requested.inside,
        λ w a told tells. operation_tells r.request.op r.request.range.first r.request.range.count (layers w.origin) told tells ∙ sym (few_told w a AtOrigin is refl),
      )

      -- the merging store
      module _ (dev : r.request.dev ≡ ToOrigin) (m : Merging B) (was : v.merge ≡ Some m) where
        pub merge_whole_asks : r.route ≡ Whole → Asks holds contents layers size faults done (Issue n) (ToMerging Flushes) v
        merge_whole_asks is = (
          tt,
          (m, was, tt),
          λ w a g there told tells.
              tells
              ∙ sym (few_told w a Whole is refl ∙ ap (λ d. flush_answers d (moving_of contents layers None w)) dev
              ∙ ap (λ (o : Option (Merging B)). if_some (held_in (merge_seen contents layers o)) (λ h. answers h.merge.store Flushes)) there),
        )

        module _ (at : ℕ) (is : r.route ≡ AtStore at) where
          pub merge_room : m.state.chunk * (at + 1) ≤ size m.device
          merge_room =
              let store = store_is holds contents layers size faults done law v kept m was in
              let room = by r.request.op refl in
              omega (arith, room, store)
            where
              at_place : (c : ℕ) × (place_of (m.pairs ++ released_of m.group) c ≡ Some at) → m.state.chunk * (at + 1) ≤ m.state.size
              at_place p = place_inside m.state.chunk m.state.origin m.state.size p.0 at (m.pairs ++ released_of m.group) (text holds contents layers size faults done law v kept m was).inside p.1

              by : (op : Op) → r.request.op ≡ op → m.state.chunk * (at + 1) ≤ m.state.size
              by ReadOp o = at_place (merging_read_placed contents layers size faults done v kept.whole n j r found r_is at is dev m was o)
              by (WriteOp bytes) o = at_place (merging_write_placed contents layers size faults done v kept.whole n j r found r_is at is dev m was bytes o)
              by FlushOp o = absurd (merging_unflushed contents layers size faults done v kept.whole n j r found r_is at is dev m was o)

          pub merge_part : r.request.range.first % m.state.chunk + r.request.range.count ≤ m.state.chunk
          merge_part = lies_within contents layers size faults done v kept.whole n j r found r_is at is dev m was

          pub merge_place_asks : Asks holds contents layers size faults done (Issue n) (ToMerging (operation_of r.request.op (m.state.chunk * at + r.request.range.first % m.state.chunk) r.request.range.count)) v
          merge_place_asks =
              let high = place_high m.state.chunk m.state.chunk at (size m.device) r.request.range.first r.request.range.count refl merge_part merge_room in
              let from : ℕ = m.state.chunk * at + r.request.range.first % m.state.chunk in (
                tt,
                (m, was, operation_can r.request.op (size m.device) from r.request.range.count few requested.some high),
                λ w a g there told tells.
                    operation_tells r.request.op (m.state.chunk * at + r.request.range.first % m.state.chunk) r.request.range.count (layers g.device) told tells
                    ∙ sym (few_told w a (AtStore at) is refl ∙ ap (λ d. place_answers d at (going_of r) (moving_of contents layers None w)) dev
                    ∙ ap (λ (o : Option (Merging B)). if_some (held_in (merge_seen contents layers o))
                    (λ h. answers h.merge.store (operation_of r.request.op (h.merge.chunk * at + r.request.range.first % h.merge.chunk) r.request.range.count))) there
                    ∙ ap (λ (x : Merging B). is_answered (fate (layers g.device) (operation_of r.request.op (x.state.chunk * at + r.request.range.first % x.state.chunk) r.request.range.count)))
                    (stays holds contents layers size faults done law v kept m was w a g there)),
              )

      -- the store of a snapshot
      module _ (k : ℕ) (s : Kept B) (within : k < length v.snaps) (s_is : s ≡ get_or v.snaps k s) (dev : r.request.dev ≡ ToSnap s.number) where
        same_number : (x : Kept B) → (x.number == s.number) ≡ true → x.number ≡ s.number
        same_number x e = eqb-true x.number s.number e

        own_number : (w : Volumed B) (a : AreAhead holds contents layers size faults done v w) → ((get_or w.snaps k s).number == s.number) ≡ true
        own_number w a = eq-eqb (get_or w.snaps k s).number s.number (ap (λ (x : Kept B). x.number) (t_is holds contents layers size faults done law v kept s.number k s within s_is w a))

        any_old : (d : Kept B) → get_or v.snaps k d ≡ s
        any_old d = get_or_default v.snaps k d s within ∙ sym s_is

        store_told : (w : Volumed B) (a : AreAhead holds contents layers size faults done v w) (op : SnapHeld → Operation)
            → store_answers (λ h. h.snap.number == s.number) op (moving_of contents layers None w) ≡ is_answered (fate (layers (get_or w.snaps k s).device) (op (held_of contents layers (get_or w.snaps k s))))
        store_told w a op = found_told holds contents layers size faults done law v kept s.number k s within s_is w a (λ h. h.snap.number == s.number) op same_number (own_number w a)

        pub store_whole_asks : r.route ≡ Whole → Asks holds contents layers size faults done (Issue n) (Store k Flushes) v
        store_whole_asks is = (
          within,
          (λ d. (tt, tt)),
          λ w a d told tells.
              subst (λ (x : Kept B). told ≡ is_answered (fate (layers x.device) Flushes)) (any_default holds contents layers size faults done law v kept s.number k s within s_is w a d) tells
              ∙ sym (few_told w a Whole is refl ∙ ap (λ x. flush_answers x (moving_of contents layers None w)) dev ∙ store_told w a (λ h. Flushes)),
        )

        module _ (at : ℕ) (is : r.route ≡ AtStore at) where
          store_lives : s.live ≡ true
          store_lives = by r.request.op refl
            where
              by : (op : Op) → r.request.op ≡ op → s.live ≡ true
              by ReadOp o = alive contents layers size faults done v kept.whole n j r found r_is at k s is within s_is dev (inl (snap_reads r.request.dev r.request.op s.number dev o))
              by (WriteOp bytes) o = alive contents layers size faults done v kept.whole n j r found r_is at k s is within s_is dev (inr (snap_writes r.request.dev r.request.op s.number bytes dev o))
              by FlushOp o = absurd (unflushed contents layers size faults done v kept.whole n j r found r_is at k s is within s_is dev o)

          pub store_room : s.state.chunk * (at + 1) ≤ size s.device
          store_room = by r.request.op refl
            where
              at_place : (c : ℕ) × (place_of s.pairs c ≡ Some at) → s.state.chunk * (at + 1) ≤ size s.device
              at_place p = places_inside contents layers size v kept.whole k s within s_is store_lives law p.0 at p.1

              by : (op : Op) → r.request.op ≡ op → s.state.chunk * (at + 1) ≤ size s.device
              by ReadOp o = at_place (read_placed contents layers size faults done v kept.whole n j r found r_is at k s is within s_is dev o)
              by (WriteOp bytes) o = at_place (write_placed contents layers size faults done v kept.whole n j r found r_is at k s is within s_is dev bytes o)
              by FlushOp o = absurd (unflushed contents layers size faults done v kept.whole n j r found r_is at k s is within s_is dev o)

          pub store_part : r.request.range.first % s.state.chunk + r.request.range.count ≤ s.state.chunk
          store_part = by r.request.op refl
            where
              by : (op : Op) → r.request.op ≡ op → r.request.range.first % s.state.chunk + r.request.range.count ≤ s.state.chunk
              by ReadOp o = read_part contents layers size faults done v kept.whole n j r found r_is at k s is within s_is dev o
              by (WriteOp bytes) o = write_part contents layers size faults done v kept.whole n j r found r_is at k s is within s_is dev bytes o
              by FlushOp o = absurd (unflushed contents layers size faults done v kept.whole n j r found r_is at k s is within s_is dev o)

          pub store_place_asks : Asks holds contents layers size faults done (Issue n) (Store k (operation_of r.request.op (s.state.chunk * at + r.request.range.first % s.state.chunk) r.request.range.count)) v
          store_place_asks =
              let high = place_high s.state.chunk s.state.chunk at (size s.device) r.request.range.first r.request.range.count refl store_part store_room in
              let can = operation_can r.request.op (size s.device) (s.state.chunk * at + r.request.range.first % s.state.chunk) r.request.range.count few requested.some high in (
                within,
                (λ d. (
                  tt,
                  subst (λ (x : Kept B). CanDoAhead (size x.device) (operation_of r.request.op (s.state.chunk * at + r.request.range.first % s.state.chunk) r.request.range.count)) (sym (any_old d)) can,
                )),
                λ w a d told tells.
                    subst (λ (x : Kept B). told ≡ is_answered (fate (layers x.device) (operation_of r.request.op (s.state.chunk * at + r.request.range.first % s.state.chunk) r.request.range.count)))
                    (any_default holds contents layers size faults done law v kept s.number k s within s_is w a d)
                    (operation_tells r.request.op (s.state.chunk * at + r.request.range.first % s.state.chunk) r.request.range.count (layers (get_or w.snaps k d).device) told tells)
                    ∙ sym (few_told w a (AtStore at) is refl ∙ ap (λ x. place_answers x at (going_of r) (moving_of contents layers None w)) dev
                    ∙ store_told w a (λ h. operation_of r.request.op (h.snap.chunk * at + r.request.range.first % h.snap.chunk) r.request.range.count)
                    ∙ ap (λ (x : Kept B). is_answered (fate (layers (get_or w.snaps k s).device) (operation_of r.request.op (x.state.chunk * at + r.request.range.first % x.state.chunk) r.request.range.count)))
                    (t_is holds contents layers size faults done law v kept s.number k s within s_is w a)),
              )

-- A request of one piece, submitted to a volume at rest with a merge, settles to the big step by the events of snapshots and
-- requests alone.
use Rattle.std.proofs.Common.{◌≡◌, inl, inr, ℕ, ◌+◌, ◌*◌, ◌/◌, ◌%◌, ◌<◌, ◌≤◌, Bool, true, false, List, [], ◌∷◌, length, map, Option, Some, None, refl, arith, ap, ◌∙◌, sym, subst, eq-eqb}
use Rattle.std.specs.Prelude.{◌||◌, is_some, if◌then◌else◌}
use Rattle.std.proofs.lemmas.Bool.{cases_Bool, cond-true, cond-false}
use Rattle.sector.specs.Bytes.{with_sectors}
use Rattle.sector.specs.declared.range.Range.{Range}
use Rattle.device.specs.declared.operation.Operation.{Operation}
use Rattle.device.specs.declared.operation.Operation.TheVariants.{Reads, Writes, Flushes}
use Rattle.chunk.specs.Pieces.{span_of}
use Rattle.plain_machine.specs.declared.request.Request.{Request}
use Rattle.plain_machine.specs.declared.request.Dev.{Dev}
use Rattle.plain_machine.specs.declared.request.Dev.TheVariants.{Origin, Snap as ToSnap}
use Rattle.plain_machine.specs.declared.request.Op.{Op}
use Rattle.plain_machine.specs.declared.request.Op.TheVariants.{Read, Write, Flush}
use Rattle.plain_machine.specs.Kept.{kept}
use Rattle.plain_machine.specs.declared.request.Reply.{Reply}
use Rattle.plain_machine.specs.declared.request.Reply.TheVariants.{Refused}
use Rattle.plain_machine.specs.declared.request.Failure.TheVariants.{Io}
use Rattle.cow_format.specs.Pairs.{pairs_of}
use Rattle.cow_format.specs.Picture.{place_of}
use Rattle.in_flight.specs.Routes.{read_route_of, write_route_of}
use Rattle.in_flight.specs.declared.flights.Route.{Route}
use Rattle.in_flight.specs.declared.flights.Route.TheVariants.{Origin as OriginDisk, Store, Whole}
use Rattle.volume_laws.specs.Again.{has_chunk}
use Rattle.whole_commands.specs.Devices.{Device, answers, met, written_by, read_reply, flush_reply}
use Rattle.whole_commands.specs.Pieces.{Answered}
use Rattle.whole_commands.specs.Requests.{FitsRange}
use Rattle.whole_commands.specs.Snaps.{Snap, Volume}
use Rattle.whole_commands.specs.Merges.{Merging, pairs_in, beside, write_at, read_at, flush_through}
use Rattle.whole_commands.specs.MergeShown.{IsMerging}
use Rattle.event_machine.specs.Held.{SnapHeld, Going, MergeHeld, Moving, group_in, on_device}
use Rattle.event_machine.specs.Again.{is_grouped, merged_place, write_route, is_clear}
use Rattle.event_machine.specs.Due.{due}
use Rattle.event_machine.specs.MergeRest.{in_big_steps, IsMergeResting, IsMergedAtRest}
use Rattle.event_machine.specs.MergeSettles.{part_of, SettlesToReplied}
use Rattle.event_machine.specs.Requests.{IsInChunk, IsFit}
use Rattle.event_machine.specs.Rest.{IsResting}
use Rattle.event_machine.specs.Stepping.{write_reply}
use Rattle.event_machine.specs.Submitting.{start_copies, accepted, submitted, chunk_at}
use Rattle.event_machine.proofs.Around.{at_with, IsIdle, due_request}
use Rattle.whole_commands.proofs.Each.{Each, each_weaker, each_from, all_from}
use Rattle.whole_command_laws.proofs.Goes.{no_start, Goes, goes_on, settled_there}
use Rattle.whole_command_laws.proofs.Issued.{issued, answered_here, Serves}
use Rattle.whole_command_laws.proofs.Primed.{resting_idle}
use Rattle.whole_command_laws.proofs.ReadsSettle.{goes_to, read_request, origin_read_serves, snap_read_serves}
use Rattle.whole_command_laws.proofs.FlushesSettle.{flush_request, snap_flush_serves}
use Rattle.whole_command_laws.proofs.SavesSettle.{snap_of}
use Rattle.whole_command_laws.proofs.SnapWritesSettle.{snap_write_serves}
use Rattle.whole_command_laws.proofs.WritesSettle.{write_request, origin_write_serves}
use Rattle.whole_command_laws.proofs.MergeServes.{over_pairs}

-- a volume goes on to one at rest with a merge
replied_there : (sectors : ℕ) (u : Moving) (h : MergeHeld) (origin : Device) (snaps : List SnapHeld) (reply : Reply) (k : ℕ) (answer : Answered Merging) → Goes no_start u (at_with (Some h) origin snaps [] (Some reply) k) → length origin.bytes ≡ 512 * sectors → Each (IsResting sectors) snaps → IsMergeResting h →
    record { volume = record { origin = origin; snaps = map snap_of snaps }; merge = h.merge } ≡ answer.state → reply ≡ answer.reply → SettlesToReplied sectors u answer
replied_there sectors u h origin snaps reply k answer goes whole rest free is same =
    let last : Moving = at_with (Some h) origin snaps [] (Some reply) k in
    let idle : Each IsIdle snaps = each_weaker (IsResting sectors) IsIdle snaps (resting_idle sectors) rest in
    let quiet : due last ≡ None = due_request origin snaps [] (Some reply) k idle None refl in
    let there = settled_there u last goes quiet in
    record {
      fuel = there.0;
      last = last;
      held = h;
      ends = there.1;
      quiet = quiet;
      rest = record { whole = whole; snaps = all_from (IsResting sectors) snaps rest; requests = refl; is = refl; merge = free };
      is = is;
      reply = ap Some same;
    }

-- a request that the merging store has no part in
served_beside : (sectors : ℕ) (u : Moving) (h : MergeHeld) (answered : Answered Volume) → IsMergeResting h → Serves sectors (Some h) u answered → SettlesToReplied sectors u (beside h.merge answered)
served_beside sectors u h answered free s =
    replied_there sectors u h answered.state.origin s.snaps answered.reply s.started (beside h.merge answered) s.goes s.whole s.rest free
    (ap (λ (ss : List Snap). let m : Merging = record { volume = record { origin = answered.state.origin; snaps = ss }; merge = h.merge } in m) s.same) refl

module _ (sectors number : ℕ) (h : MergeHeld) (origin : Device) (snaps : List SnapHeld) (a : Option Reply) (k : ℕ) (whole : length origin.bytes ≡ 512 * sectors) (resting : Each (IsResting sectors) snaps) (free : IsMergeResting h) where
  abbrev pub here : Moving
  here = at_with (Some h) origin snaps [] a k

  abbrev pub big : Merging
  big = in_big_steps h here

  idle : Each IsIdle snaps
  idle = each_weaker (IsResting sectors) IsIdle snaps (resting_idle sectors) resting

  -- no chunk is in a group
  no_group : (first : ℕ) → is_grouped (Some h) first ≡ false
  no_group first = ap (λ (x : MergeHeld). has_chunk (group_in x) (first / h.merge.chunk)) (sym free.free)

  -- another store with the same pairs
  store_rests : (store : Device) → pairs_of h.merge.chunk store.bytes ≡ h.pairs → IsMergeResting (on_device h store)
  store_rests store same = record { pairs = same; free = ap (λ (x : MergeHeld). on_device x store) free.free }

  module _ (range : Range) where
    abbrev place : Option ℕ
    place = merged_place (Some h) range.first

    place_same : place_of (pairs_in h.merge) (range.first / h.merge.chunk) ≡ place
    place_same = ap (λ ps. place_of ps (range.first / h.merge.chunk)) free.pairs

    -- a read at a place of the merging store
    reads_store : (n : ℕ) → place ≡ Some n → SettlesToReplied sectors (submitted number (read_request range) here) (read_at (Some n) (span_of range) big)
    reads_store n placed =
        let first : ℕ = h.merge.chunk * n + range.first % h.merge.chunk in
        let store : Device = met h.merge.store (Reads first range.count) in
        let reply : Reply = read_reply h.merge.store first range.count in
        let r : Going = record { number = number; request = read_request range; route = Store n } in
        let begun : submitted number (read_request range) here ≡ at_with (Some h) origin snaps (r ∷ []) a k = ap (λ o. accepted number (read_request range) (read_route_of o) here) placed in
        subst (λ (u : Moving). SettlesToReplied sectors u (read_at (Some n) (span_of range) big)) (sym begun)
        (replied_there sectors (at_with (Some h) origin snaps (r ∷ []) a k) (on_device h store) origin snaps reply k (read_at (Some n) (span_of range) big)
        (goes_to _ _ _ (issued (Some h) origin snaps r a k idle refl) (answered_here (Some (on_device h store)) origin snaps r reply a k)) whole resting (store_rests store free.pairs) refl refl)

    pub read_settles : SettlesToReplied sectors (submitted number (read_request range) here) (part_of Origin Read (span_of range) big)
    read_settles = subst (λ (o : Option ℕ). SettlesToReplied sectors (submitted number (read_request range) here) (read_at o (span_of range) big)) (sym place_same) (by_place place refl)
      where
        by_place : (o : Option ℕ) → place ≡ o → SettlesToReplied sectors (submitted number (read_request range) here) (read_at o (span_of range) big)
        by_place None none = served_beside sectors _ h _ free (origin_read_serves (Some h) sectors number range origin snaps a k none whole resting)
        by_place (Some n) placed = reads_store n placed

    module _ (bytes : List ℕ) (is : IsMerging sectors big) (some : 0 < range.count) (inside : range.first + range.count ≤ sectors) (one : range.first + range.count ≤ h.merge.chunk * (range.first / h.merge.chunk) + h.merge.chunk) (len : length bytes ≡ 512 * range.count) where
      -- a write at a place of the merging store
      writes_store : (n : ℕ) → place ≡ Some n → SettlesToReplied sectors (submitted number (write_request range bytes) here) (write_at (Some n) (span_of range) bytes big)
      writes_store n placed =
          let first : ℕ = h.merge.chunk * n + range.first % h.merge.chunk in
          let op : Operation = Writes first range.count in
          let new : List ℕ = with_sectors h.merge.store.bytes first bytes in
          let store : Device = written_by h.merge.store op new in
          let reply : Reply = write_reply h.merge.store first range.count in
          let r : Going = record { number = number; request = write_request range bytes; route = Store n } in
          let starts : Bool → Moving = λ (b : Bool). let w : Moving = if b then here else start_copies (chunk_at range.first) here in accepted number (write_request range bytes) (write_route w.merge w.snaps range.first) w in
          let begun : submitted number (write_request range bytes) here ≡ at_with (Some h) origin snaps (r ∷ []) a k =
          ap (λ b. starts (b || is_some place)) (no_group range.first) ∙ ap (λ o. starts (is_some o)) placed
          ∙ ap (λ b. accepted number (write_request range bytes) (write_route_of b place (is_clear snaps range.first)) here) (no_group range.first)
          ∙ ap (λ o. accepted number (write_request range bytes) (write_route_of false o (is_clear snaps range.first)) here) placed in
          let named : place_of (pairs_in h.merge) (range.first / h.merge.chunk) ≡ Some n = place_same ∙ placed in
          let kept : pairs_of h.merge.chunk store.bytes ≡ h.pairs = elim (cases_Bool (answers h.merge.store op)) [
            | inl ok ↦ ap (pairs_of h.merge.chunk) (cond-true _ _ _ ok) ∙ over_pairs sectors n (span_of range) big is some inside one named bytes len ∙ free.pairs
            | inr lost ↦ ap (pairs_of h.merge.chunk) (cond-false _ _ _ lost) ∙ free.pairs
          ] in
          subst (λ (u : Moving). SettlesToReplied sectors u (write_at (Some n) (span_of range) bytes big)) (sym begun)
          (replied_there sectors (at_with (Some h) origin snaps (r ∷ []) a k) (on_device h store) origin snaps reply k (write_at (Some n) (span_of range) bytes big)
          (goes_to _ _ _ (issued (Some h) origin snaps r a k idle refl) (answered_here (Some (on_device h store)) origin snaps r reply a k)) whole resting (store_rests store kept) refl refl)

      pub write_settles : SettlesToReplied sectors (submitted number (write_request range bytes) here) (part_of Origin (Write bytes) (span_of range) big)
      write_settles = subst (λ (o : Option ℕ). SettlesToReplied sectors (submitted number (write_request range bytes) here) (write_at o (span_of range) bytes big)) (sym place_same) (by_place place refl)
        where
          by_place : (o : Option ℕ) → place ≡ o → SettlesToReplied sectors (submitted number (write_request range bytes) here) (write_at o (span_of range) bytes big)
          by_place None none = served_beside sectors _ h _ free (origin_write_serves (Some h) sectors number range (no_group range.first) none bytes a origin snaps k whole resting some inside len)
          by_place (Some n) placed = writes_store n placed

  -- a flush of the origin: an event for the merging store, and one for the origin's device
  module _ (range : Range) where
    abbrev pub flying : Route → Going
    flying route = record { number = number; request = kept (flush_request Origin range); route = route }

    abbrev pub store_met : MergeHeld
    store_met = on_device h (met h.merge.store Flushes)

    begins : submitted number (flush_request Origin range) here ≡ at_with (Some h) origin snaps (flying Whole ∷ []) a k
    begins = refl

    -- the store is flushed, and the request goes on to the origin's device
    goes_first : answers h.merge.store Flushes ≡ true → Goes no_start (at_with (Some h) origin snaps (flying Whole ∷ []) a k) (at_with (Some store_met) origin snaps (flying OriginDisk ∷ []) a k)
    goes_first ok = goes_to _ _ _ (issued (Some h) origin snaps (flying Whole) a k idle refl)
        (cond-true _ _ _ ok ∙ ap (λ rs. at_with (Some store_met) origin snaps rs a k) (cond-true _ _ _ (eq-eqb number number refl)))

    goes_last : Goes no_start (at_with (Some store_met) origin snaps (flying OriginDisk ∷ []) a k) (at_with (Some store_met) (met origin Flushes) snaps [] (Some (flush_reply origin)) k)
    goes_last = goes_to _ _ _ (issued (Some store_met) origin snaps (flying OriginDisk) a k idle refl) (answered_here (Some store_met) (met origin Flushes) snaps (flying OriginDisk) (flush_reply origin) a k)

    -- or its flush fails
    goes_failed : answers h.merge.store Flushes ≡ false → Goes no_start (at_with (Some h) origin snaps (flying Whole ∷ []) a k) (at_with (Some store_met) origin snaps [] (Some (Refused Io)) k)
    goes_failed failed = goes_to _ _ _ (issued (Some h) origin snaps (flying Whole) a k idle refl)
        (cond-false _ _ _ failed ∙ answered_here (Some store_met) origin snaps (flying Whole) (Refused Io) a k)

    pub flush_settles : SettlesToReplied sectors (submitted number (flush_request Origin range) here) (flush_through big)
    flush_settles =
        let u : Moving = at_with (Some h) origin snaps (flying Whole ∷ []) a k in
        elim (cases_Bool (answers h.merge.store Flushes)) [
          | inl ok ↦ (let mid : Moving = at_with (Some store_met) origin snaps (flying OriginDisk ∷ []) a k in
              subst (SettlesToReplied sectors u) (sym (cond-true _ _ _ ok))
              (replied_there sectors u store_met (met origin Flushes) snaps (flush_reply origin) k _ (goes_on u mid _ (goes_first ok) goes_last) whole resting (store_rests (met h.merge.store Flushes) free.pairs) refl refl))
          | inr failed ↦ subst (SettlesToReplied sectors u) (sym (cond-false _ _ _ failed))
              (replied_there sectors u store_met origin snaps (Refused Io) k _ (goes_failed failed) whole resting (store_rests (met h.merge.store Flushes) free.pairs) refl refl)
        ]

  -- each request
  pub settles_by : (dev : Dev) (op : Op) (range : Range) → IsMerging sectors big → 0 < range.count → range.first + range.count ≤ sectors → FitsRange op range.count → Each (IsInChunk range) snaps → range.first + range.count ≤ h.merge.chunk * (range.first / h.merge.chunk) + h.merge.chunk →
      SettlesToReplied sectors (submitted number (record { dev = dev; op = op; range = range }) here) (part_of dev op (span_of range) big)
  settles_by Origin Read range is some inside fits pieces one = read_settles range
  settles_by Origin (Write bytes) range is some inside fits pieces one = write_settles range bytes is some inside one fits
  settles_by Origin Flush range is some inside fits pieces one = flush_settles range
  settles_by (ToSnap n) Read range is some inside fits pieces one = served_beside sectors _ h _ free (snap_read_serves (Some h) sectors number n range origin a k whole snaps resting)
  settles_by (ToSnap n) (Write bytes) range is some inside fits pieces one = served_beside sectors _ h _ free (snap_write_serves (Some h) sectors number n range bytes origin a k whole (omega arith) fits snaps resting pieces)
  settles_by (ToSnap n) Flush range is some inside fits pieces one = served_beside sectors _ h _ free (snap_flush_serves (Some h) sectors number n range origin a k whole snaps resting)

-- The law of settling of a request of one piece beside a merge.
pub part_settles : (sectors number : ℕ) (request : Request) (v : Moving) (h : MergeHeld) → IsMergedAtRest sectors h v → IsMerging sectors (in_big_steps h v) → IsFit sectors v.snaps request → request.range.first + request.range.count ≤ h.merge.chunk * (request.range.first / h.merge.chunk) + h.merge.chunk →
    SettlesToReplied sectors (submitted number request v) (part_of request.dev request.op (span_of request.range) (in_big_steps h v))
part_settles sectors number request v h rest is fit one =
    let with_both : Option MergeHeld → List Going → Moving = λ (o : Option MergeHeld) (rs : List Going). at_with o v.origin v.snaps rs v.replied v.started in
    let v_is : v ≡ with_both (Some h) [] = ap (λ o. with_both o v.requests) rest.is ∙ ap (with_both (Some h)) rest.requests in
    subst (λ (u : Moving). SettlesToReplied sectors (submitted number request u) (part_of request.dev request.op (span_of request.range) (in_big_steps h v))) (sym v_is)
    (settles_by sectors number h v.origin v.snaps v.replied v.started rest.whole (each_from (IsResting sectors) v.snaps rest.snaps) rest.merge request.dev request.op request.range is fit.some fit.inside fit.bytes (each_from (IsInChunk request.range) v.snaps fit.chunks) one)

-- A request is issued, by each route, in a whole volume: Issue. Origin requests here are those without a merge.
use Rattle.std.proofs.Common.{◌≡◌, ◌≢◌, inl, inr, ℕ, ◌+◌, ◌*◌, ◌%◌, ◌<◌, ◌≤◌, true, false, List, Some, None, length, get_or, map, refl, sym, ◌∙◌, ap, subst, arith}
use Rattle.std.specs.List.{remove}
use Rattle.std.proofs.lemmas.Bool.{cases_Bool}
use Rattle.sector.specs.Bytes.{sectors_at}
use Rattle.cow_format.specs.Picture.{picture}
use Rattle.plain_machine.specs.declared.request.Dev.{Dev}
use Rattle.plain_machine.specs.declared.request.Dev.TheVariants.{Origin as AtOrigin, Snap}
use Rattle.plain_machine.specs.declared.request.Op.TheVariants.{Read, Flush}
use Rattle.plain_machine.specs.declared.request.Reply.{Reply}
use Rattle.plain_machine.specs.declared.request.Reply.TheVariants.{Data, Flushed, Refused as IsRefused}
use Rattle.plain_machine.specs.declared.request.Failure.TheVariants.{Invalid as IsInvalid, Io}
use Rattle.plain_machine.specs.Plain.{Live, Invalid, saved_under}
use Rattle.plain_machine.specs.Serves.{Serves, SameArrays, IsShowing}
use Rattle.plain_machine.specs.Legal.{IsAnswered}
use Rattle.in_flight.specs.Kinds.{kind_of}
use Rattle.in_flight.specs.declared.flights.Flight.{Flight}
use Rattle.in_flight.specs.declared.flights.Kind.TheVariants.{OriginRead, OriginWrite, OriginFlush, SnapRead, SnapWrite, SnapFlush}
use Rattle.in_flight.specs.declared.flights.Route.TheVariants.{Origin, Store, Whole, Refused}
use Rattle.volume_laws.proofs.Heard.{both_loud}
use Rattle.volume_laws.specs.Books.{SnapBooks, Books}
use Rattle.volume_laws.specs.Held.{SnapHolds, RouteHolds, RefusedHolds, RequestHolds}
use Rattle.volume_laws.specs.Whole.{Holds, plain_of, entry_of, origin_of, begun_of}
use Rattle.volume_laws.specs.Steps.{OnlyTakesOut}
use Rattle.volume_laws.specs.Outcomes.{IsReply}
use Rattle.volume_laws.proofs.Lists.{All-remove}
use Rattle.volume_laws.proofs.Same.{same_volume}
use Rattle.volume_laws.proofs.Requests.{asked, gone, found_holds, origin_out, snap_out}
use Rattle.volume_laws.proofs.Entries.{saved_at, origin_read_is, origin_write_is, origin_flush_is, snap_flush_is, snap_read_is, snap_write_is, serves_as, io_served, invalid_served}
use Rattle.volume_laws.proofs.SnapRequests.{disk_read, place_read}
use Rattle.volume_laws.proofs.WholeOne.{snap_holds, snap_loud, shown}

-- the request is taken out, and nothing else changes
module _ (number k : ℕ) (r : Flight) (v w : Books) (h : Holds v) (e : OnlyTakesOut number k r v w) where
  abbrev left : Books
  left = record v { requests = remove v.requests k }

  left_is : w ≡ left
  left_is = (let t = e.out in same_volume w left e.origin t.sectors t.loud e.snaps t.merge t.requests)

  left_holds : Holds w
  left_holds = subst Holds (sym left_is) (record {
    whole = h.whole;
    merge = origin_out v.origin v.requests k v.merge h.merge;
    snaps = λ j d lt. snap_out v.origin v.requests (get_or v.snaps j d) k (h.snaps j d lt);
    requests = All-remove (RequestHolds v.sectors) v.requests k h.requests;
    numbers = h.numbers;
  })

  same_arrays : SameArrays (plain_of v) (plain_of w)
  same_arrays = record {
    origin = ap (λ (x : Books). origin_of x.origin x.merge) left_is;
    begun = ap (λ (x : Books). begun_of x.merge) left_is;
    saved = ap (λ (x : Books). map (entry_of x.origin) x.snaps) left_is;
  }

  -- any reply that changes no array
  answered : (reply : Reply) → Serves (plain_of v) r.request.dev r.request.op r.request.range reply (plain_of w) → IsAnswered (plain_of v) number reply (plain_of w)
  answered reply served = record { request = r.request; asked = asked number k r v w e.out; gone = gone number k r v w e.out; served = served }

  -- a device failed at a request of a device that shows an array
  io_at : (dev : Dev) → r.request.dev ≡ dev → IsShowing (plain_of v) dev → IsReply number (IsRefused Io) v w
  io_at dev is showing = record {
    holds = left_holds;
    step = λ _. answered (IsRefused Io) (serves_as (plain_of v) (plain_of w) (IsRefused Io) r.request dev r.request.op is refl
        (io_served (plain_of v) (plain_of w) dev r.request.op r.request.range same_arrays showing));
  }

  -- at a read, a write or a flush of the origin
  pub io_read_event : kind_of r.request ≡ OriginRead → IsReply number (IsRefused Io) v w
  io_read_event kind = io_at AtOrigin (origin_read_is r.request.dev r.request.op kind).0 ((plain_of v).origin, refl)

  pub io_write_event : kind_of r.request ≡ OriginWrite → IsReply number (IsRefused Io) v w
  io_write_event kind = io_at AtOrigin (origin_write_is r.request.dev r.request.op kind) ((plain_of v).origin, refl)

  pub io_flush_event : kind_of r.request ≡ OriginFlush → IsReply number (IsRefused Io) v w
  io_flush_event kind = io_at AtOrigin (origin_flush_is r.request.dev r.request.op kind).0 ((plain_of v).origin, refl)

  -- the origin disk was flushed
  pub flush_disk_event : kind_of r.request ≡ OriginFlush → IsReply number Flushed v w
  flush_disk_event kind =
      let is = origin_flush_is r.request.dev r.request.op kind in
      record {
        holds = left_holds;
        step = λ _. answered Flushed (serves_as (plain_of v) (plain_of w) Flushed r.request AtOrigin Flush is.0 is.1 (same_arrays, ((plain_of v).origin, refl)));
      }

  -- an origin read, without a merge
  pub read_disk_event : (bytes : List ℕ) → v.merge ≡ None → kind_of r.request ≡ OriginRead → bytes ≡ sectors_at v.origin r.request.range.first r.request.range.count → IsReply number (Data bytes) v w
  read_disk_event bytes none kind read =
      let is = origin_read_is r.request.dev r.request.op kind in
      record {
        holds = left_holds;
        step = λ _. answered (Data bytes) (serves_as (plain_of v) (plain_of w) (Data bytes) r.request AtOrigin Read is.0 is.1
            (same_arrays, (v.origin, sym (ap (origin_of v.origin) none), read)));
      }

  request_holds : RequestHolds v.sectors r
  request_holds = found_holds (RequestHolds v.sectors) number k r v w e.out h.requests

  -- requests of snapshot j
  module _ (j : ℕ) (s : SnapBooks) (within : j < length v.snaps) (was : s ≡ get_or v.snaps j s) where
    here : SnapHolds v.loud v.origin v.requests s
    here = snap_holds v j s h within was

    route_at : (live : s.live ≡ true) → RouteHolds s.number s.chunk s.pairs s.marks r
    route_at live = found_holds (RouteHolds s.number s.chunk s.pairs s.marks) number k r v w e.out (here.alive live).routes

    refused_at : s.live ≡ false → RefusedHolds s.number r
    refused_at dead = found_holds (RefusedHolds s.number) number k r v w e.out (here.spoilt dead).routes

    shows_live : s.live ≡ true → saved_under s.number (map (entry_of v.origin) v.snaps) ≡ Some (Live (picture s.chunk v.origin s.store))
    shows_live live = saved_at v.origin v.snaps j s h.numbers within was ∙ ap (λ b. Some (shown s.number s.overflow b (picture s.chunk v.origin s.store)).saved) live

    shows_dead : s.live ≡ false → saved_under s.number (map (entry_of v.origin) v.snaps) ≡ Some Invalid
    shows_dead dead = saved_at v.origin v.snaps j s h.numbers within was ∙ ap (λ b. Some (shown s.number s.overflow b (picture s.chunk v.origin s.store)).saved) dead

    origin_ne_refused : Origin ≢ Refused
    origin_ne_refused c = cc

    store_ne_refused : (place : ℕ) → Store place ≢ Refused
    store_ne_refused place c = cc

    -- one that reads is live, where its route is not the refusal
    pub reading_live : kind_of r.request ≡ SnapRead s.number → r.route ≢ Refused → s.live ≡ true
    reading_live kind ne = elim (cases_Bool s.live) [ inl live ↦ live | inr dead ↦ absurd (ne ((refused_at dead).read kind)) ]

    -- one that writes is live, where its route is not the refusal
    pub writing_live : kind_of r.request ≡ SnapWrite s.number → r.route ≢ Refused → s.live ≡ true
    writing_live kind ne = elim (cases_Bool s.live) [ inl live ↦ live | inr dead ↦ absurd (ne ((refused_at dead).write kind)) ]

    -- one that flushes is live, where its route is not the refusal
    pub flushing_live : kind_of r.request ≡ SnapFlush s.number → r.route ≢ Refused → s.live ≡ true
    flushing_live kind ne = elim (cases_Bool s.live) [ inl live ↦ live | inr dead ↦ absurd (ne ((refused_at dead).flush kind)) ]

    -- a device failed at a read, a write or a flush of the snapshot
    pub io_snap_read_event : kind_of r.request ≡ SnapRead s.number → r.route ≢ Refused → IsReply number (IsRefused Io) v w
    io_snap_read_event kind ne = io_at (Snap s.number) (snap_read_is r.request.dev r.request.op s.number kind).0 (picture s.chunk v.origin s.store, shows_live (reading_live kind ne))

    pub io_snap_write_event : kind_of r.request ≡ SnapWrite s.number → r.route ≢ Refused → IsReply number (IsRefused Io) v w
    io_snap_write_event kind ne = io_at (Snap s.number) (snap_write_is r.request.dev r.request.op s.number kind) (picture s.chunk v.origin s.store, shows_live (writing_live kind ne))

    pub io_snap_flush_event : kind_of r.request ≡ SnapFlush s.number → r.route ≢ Refused → IsReply number (IsRefused Io) v w
    io_snap_flush_event kind ne = io_at (Snap s.number) (snap_flush_is r.request.dev r.request.op s.number kind).0 (picture s.chunk v.origin s.store, shows_live (flushing_live kind ne))

    read_served : (bytes : List ℕ) → s.live ≡ true → kind_of r.request ≡ SnapRead s.number → bytes ≡ sectors_at (picture s.chunk v.origin s.store) r.request.range.first r.request.range.count
        → Serves (plain_of v) r.request.dev r.request.op r.request.range (Data bytes) (plain_of w)
    read_served bytes live kind read =
        let is = snap_read_is r.request.dev r.request.op s.number kind in
        serves_as (plain_of v) (plain_of w) (Data bytes) r.request (Snap s.number) Read is.0 is.1 (same_arrays, (picture s.chunk v.origin s.store, shows_live live, read))

    sectors_same : s.live ≡ true → v.sectors ≡ s.sectors
    sectors_same live = (let f = (here.alive live).fits in let g = h.whole in omega (arith, f, g))

    range_inside : s.live ≡ true → r.request.range.first + r.request.range.count ≤ s.sectors
    range_inside live = (let i = request_holds.inside in let same = sectors_same live in omega (arith, i, same))

    -- a snapshot read that is routed to the origin disk
    pub snap_disk_event : (bytes : List ℕ) → kind_of r.request ≡ SnapRead s.number → r.route ≡ Origin → bytes ≡ sectors_at v.origin r.request.range.first r.request.range.count → IsReply number (Data bytes) v w
    snap_disk_event bytes kind route read =
        let live = reading_live kind (λ c. origin_ne_refused (sym route ∙ c)) in
        let at = route_at live in
        record {
          holds = left_holds;
          step = λ loud. answered (Data bytes) (read_served bytes live kind
              (read ∙ disk_read v.origin v.requests s (here.alive live) (both_loud v.loud s.loud loud.origin (snap_loud v j s loud within was)) r.request.range at.piece (range_inside live) (at.read kind route)));
        }

    -- a snapshot read that is routed to the chunk's place
    pub snap_place_event : (bytes : List ℕ) (place : ℕ) → kind_of r.request ≡ SnapRead s.number → r.route ≡ Store place → bytes ≡ sectors_at s.store (s.chunk * place + r.request.range.first % s.chunk) r.request.range.count → IsReply number (Data bytes) v w
    snap_place_event bytes place kind route read =
        let live = reading_live kind (λ c. store_ne_refused place (sym route ∙ c)) in
        let at = route_at live in
        record {
          holds = left_holds;
          step = λ loud. answered (Data bytes) (read_served bytes live kind
              (read ∙ place_read v.origin v.requests s (here.alive live) (snap_loud v j s loud within was) r.request.range place at.piece (range_inside live) (at.read_stored place kind route)));
        }

    -- a request of a spoiled snapshot
    pub refused_read_event : kind_of r.request ≡ SnapRead s.number → r.route ≡ Refused → IsReply number (IsRefused IsInvalid) v w
    refused_read_event kind route =
        let is = snap_read_is r.request.dev r.request.op s.number kind in
        let dead : s.live ≡ false = elim (cases_Bool s.live) [ inl live ↦ absurd ((route_at live).read_alive kind route) | inr dead ↦ dead ] in
        record {
          holds = left_holds;
          step = λ _. answered (IsRefused IsInvalid) (serves_as (plain_of v) (plain_of w) (IsRefused IsInvalid) r.request (Snap s.number) r.request.op is.0 refl
              (invalid_served (plain_of v) (plain_of w) (Snap s.number) r.request.op r.request.range same_arrays (shows_dead dead)));
        }

    pub refused_write_event : kind_of r.request ≡ SnapWrite s.number → r.route ≡ Refused → IsReply number (IsRefused IsInvalid) v w
    refused_write_event kind route =
        let is = snap_write_is r.request.dev r.request.op s.number kind in
        let dead : s.live ≡ false = elim (cases_Bool s.live) [ inl live ↦ absurd ((route_at live).write_alive kind route) | inr dead ↦ dead ] in
        record {
          holds = left_holds;
          step = λ _. answered (IsRefused IsInvalid) (serves_as (plain_of v) (plain_of w) (IsRefused IsInvalid) r.request (Snap s.number) r.request.op is refl
              (invalid_served (plain_of v) (plain_of w) (Snap s.number) r.request.op r.request.range same_arrays (shows_dead dead)));
        }

    whole_ne_refused : Whole ≢ Refused
    whole_ne_refused c = cc

    pub refused_flush_event : kind_of r.request ≡ SnapFlush s.number → r.route ≡ Refused → IsReply number (IsRefused IsInvalid) v w
    refused_flush_event kind route =
        let is = snap_flush_is r.request.dev r.request.op s.number kind in
        let dead : s.live ≡ false = elim (cases_Bool s.live) [ inl live ↦ absurd (whole_ne_refused (sym ((route_at live).flush kind) ∙ route)) | inr dead ↦ dead ] in
        record {
          holds = left_holds;
          step = λ _. answered (IsRefused IsInvalid) (serves_as (plain_of v) (plain_of w) (IsRefused IsInvalid) r.request (Snap s.number) r.request.op is.0 refl
              (invalid_served (plain_of v) (plain_of w) (Snap s.number) r.request.op r.request.range same_arrays (shows_dead dead)));
        }

-- A request is submitted: it is routed, and the copies that it waits for are started. This project's own.
use Rattle.std.specs.Prelude.{◌==◌, ◌&&◌, ◌||◌, not, ℕ, ◌+◌, ◌*◌, ◌/◌, nat_lt, is_some, Bool, List, [], ◌∷◌, ◌++◌, length, map, Option, Some, None, if◌then◌else◌}
use Rattle.std.specs.List.{list_any}
use Rattle.plain_machine.specs.Plain.{did_overflow, may_overflow}
use Rattle.plain_machine.specs.Kept.{kept}
use Rattle.plain_machine.specs.declared.request.Overflowing.TheVariants.{Did}
use Rattle.plain_machine.specs.declared.request.Request.{Request}
use Rattle.plain_machine.specs.declared.request.Reply.TheVariants.{Refused as Declined}
use Rattle.plain_machine.specs.declared.request.Failure.{Failure}
use Rattle.plain_machine.specs.declared.request.Failure.TheVariants.{Invalid, Overflow}
use Rattle.cow_format.specs.NextPlace.{stepped as stepped_place}
use Rattle.cow_format.specs.Picture.{place_of}
use Rattle.in_flight.specs.Kinds.{kind_of}
use Rattle.in_flight.specs.Routes.{read_route_of, flush_route_of}
use Rattle.in_flight.specs.declared.copies.Stage.TheVariants.{Waiting}
use Rattle.in_flight.specs.declared.flights.Kind.{Kind}
use Rattle.in_flight.specs.declared.flights.Kind.TheVariants.{OriginRead, OriginWrite, OriginFlush, SnapRead, SnapWrite, SnapFlush}
use Rattle.in_flight.specs.declared.flights.Route.{Route}
use Rattle.in_flight.specs.declared.flights.Route.TheVariants.{Held as Waits, Store, Whole}
use Rattle.volume_laws.specs.Again.{published_place}
use Rattle.event_machine.specs.Held.{SnapHeld, Going, Moving, spoiled}
use Rattle.event_machine.specs.Again.{is_grouped, merged_place, write_route, refused}
use Rattle.event_machine.specs.Stepping.{for_some, first_that, put, spoil}

-- whether the next place is not wholly inside the store
abbrev pub is_filled : SnapHeld → Bool
is_filled h = nat_lt (length h.snap.store.bytes) (512 * (h.snap.chunk * (h.next + 1)))

-- a copy of chunk c under a number
abbrev pub with_copy : ℕ → ℕ → SnapHeld → SnapHeld
with_copy number c h = record h {
  next = stepped_place h.snap.chunk (h.next + 1);
  copies = h.copies ++ (record { number = number; pair = record { old = c; new = h.next }; stage = Waiting; bytes = [] }) ∷ [];
}

-- whether a snapshot needs no copy of chunk c: it is not live, or has the chunk, or a copy of it is under way
abbrev pub needs_none : ℕ → SnapHeld → Bool
needs_none c h = not h.snap.live || is_some (place_of h.pairs c) || list_any (λ p. p.pair.old == c) h.copies

-- A copy of the chunk that is wanted of a snapshot is started in each live one that lacks it, under the number after
-- `started`, and so on; a snapshot whose store is full is spoiled.
abbrev pub started_all : (SnapHeld → ℕ) → ℕ → List SnapHeld → List SnapHeld
started_all at started [] = []
started_all at started (h ∷ snaps) =
    if needs_none (at h) h then h ∷ started_all at started snaps
    else (if is_filled h then spoiled h ∷ started_all at started snaps
    else with_copy (started + 1) (at h) h ∷ started_all at (started + 1) snaps)

-- how many copies were started then
abbrev pub started_by : (SnapHeld → ℕ) → ℕ → List SnapHeld → ℕ
started_by at started [] = started
started_by at started (h ∷ snaps) =
    if needs_none (at h) h || is_filled h then started_by at started snaps else started_by at (started + 1) snaps

-- the requests in flight: those of the snapshots that are spoiled are refused
abbrev pub refused_by : (SnapHeld → ℕ) → List SnapHeld → List Going → List Going
refused_by at [] requests = requests
refused_by at (h ∷ snaps) requests =
    if needs_none (at h) h || not (is_filled h) then refused_by at snaps requests else refused_by at snaps (map (refused h.snap.number) requests)

-- a request that is accepted
abbrev pub accepted : ℕ → Request → Route → Moving → Moving
accepted number request route v = record v { requests = v.requests ++ (record { number = number; request = request; route = route }) ∷ [] }

-- one that is refused
abbrev pub declined : Failure → Moving → Moving
declined failure v = record v { replied = Some (Declined failure) }

-- the copies of the chunks that are wanted are started in all snapshots that lack them
abbrev pub start_copies : (SnapHeld → ℕ) → Moving → Moving
start_copies at v =
    record v { snaps = started_all at v.started v.snaps; requests = refused_by at v.snaps v.requests; started = started_by at v.started v.snaps }

-- the chunk of the origin's sector `first` in a snapshot
abbrev pub chunk_at : ℕ → SnapHeld → ℕ
chunk_at first h = first / h.snap.chunk

-- a write of the origin starts copies, but where its chunk is in the merge's group, or has a place on the merging store
abbrev pub write_origin : ℕ → Request → Moving → Moving
write_origin number request v =
    let first : ℕ = request.range.first in
    let w : Moving = if is_grouped v.merge first || is_some (merged_place v.merge first) then v else start_copies (chunk_at first) v in
    accepted number request (write_route w.merge w.snaps first) w

abbrev pub read_snap : ℕ → Request → SnapHeld → Moving → Moving
read_snap number request h v =
    if h.snap.live then accepted number request (read_route_of (place_of h.pairs (request.range.first / h.snap.chunk))) v else declined Invalid v

-- a write of a live snapshot that has not published its chunk waits for the copy
abbrev pub write_held : ℕ → Request → (SnapHeld → Bool) → SnapHeld → Moving → Moving
write_held number request test h v =
    let c : ℕ = request.range.first / h.snap.chunk in
    if needs_none c h then accepted number request Waits v
    else (if is_filled h then declined Invalid (spoil test h v) else accepted number request Waits (put test (with_copy (v.started + 1) c h) (record v { started = v.started + 1 })))

-- by the place of the chunk, where that is published
abbrev pub write_placed : ℕ → Request → (SnapHeld → Bool) → SnapHeld → Option ℕ → Moving → Moving
write_placed number request test h (Some place) v = accepted number request (Store place) v
write_placed number request test h None v = write_held number request test h v

-- by whether the snapshot is live
abbrev pub write_open : ℕ → Request → (SnapHeld → Bool) → SnapHeld → Moving → Moving
write_open number request test h v =
    if h.snap.live then write_placed number request test h (published_place h.pairs h.marks (request.range.first / h.snap.chunk)) v else declined Invalid v

-- whether a live snapshot takes no write of chunk c: its store overflowed, or overflows by it
abbrev pub shuts : ℕ → SnapHeld → Bool
shuts c h = h.snap.live && (did_overflow h.snap.overflow || (may_overflow h.snap.overflow && (not (needs_none c h) && is_filled h)))

-- its store overflowed: its copies go on
abbrev pub overflown : SnapHeld → SnapHeld
overflown h = record h { snap = record h.snap { overflow = Did } }

-- one whose store overflowed, or that may overflow and does, takes no write from then on
abbrev pub write_snap : ℕ → Request → (SnapHeld → Bool) → SnapHeld → Moving → Moving
write_snap number request test h v =
    if shuts (request.range.first / h.snap.chunk) h then declined Overflow (put test (overflown h) v) else write_open number request test h v

-- a flush of a live snapshot; a volume keeps a flush with a range of its own
abbrev pub flush_snap : ℕ → Request → SnapHeld → Moving → Moving
flush_snap number request h v = if h.snap.live then accepted number request Whole v else declined Invalid v

abbrev pub submitted_as : Kind → ℕ → Request → Moving → Moving
submitted_as OriginRead number request v = accepted number request (read_route_of (merged_place v.merge request.range.first)) v
submitted_as OriginWrite number request v = write_origin number request v
submitted_as OriginFlush number request v = accepted number (kept request) (flush_route_of (is_some v.merge)) v
submitted_as (SnapRead n) number request v = for_some (first_that (λ h. h.snap.number == n) v.snaps) (λ h. read_snap number request h v) (declined Invalid v)
submitted_as (SnapWrite n) number request v =
    for_some (first_that (λ h. h.snap.number == n) v.snaps) (λ h. write_snap number request (λ k. k.snap.number == n) h v) (declined Invalid v)
submitted_as (SnapFlush n) number request v = for_some (first_that (λ h. h.snap.number == n) v.snaps) (λ h. flush_snap number (kept request) h v) (declined Invalid v)

-- a request under a number
abbrev pub submitted : ℕ → Request → Moving → Moving
submitted number request v = submitted_as (kind_of request) number request v

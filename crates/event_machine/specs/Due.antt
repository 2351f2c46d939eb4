-- Which event is due first, as `volume_laws` has it: marks of spoiled snapshots, then the flushes that something waits
-- for, then what frees held writes, then the copies' own steps, and requests last; in each kind the least number.
use Rattle.std.specs.Prelude.{◌==◌, ◌&&◌, ◌||◌, not, ℕ, ◌+◌, ◌-◌, ◌*◌, ◌/◌, ◌%◌, min, Bool, false, List, [], ◌∷◌, length, Option, None}
use Rattle.std.specs.List.{list_any, prefix_len}
use Rattle.plain_machine.specs.declared.event.Event.{Event}
use Rattle.plain_machine.specs.declared.event.Event.TheVariants.{Issue, CopyRead, CopyWrite, ZeroNext, WriteArea, Publish, WriteInvalid, FlushStore}
use Rattle.in_flight.specs.declared.copies.Stage.{Stage}
use Rattle.in_flight.specs.declared.copies.Stage.TheVariants.{Waiting, Read, Written, Flushed}
use Rattle.in_flight.specs.declared.copies.Mark.{Mark}
use Rattle.in_flight.specs.Kinds.{kind_of}
use Rattle.in_flight.specs.Routes.{reads_origin_of}
use Rattle.in_flight.specs.Due.{first_by, least, is_stage, is_routed, number_of_mark}
use Rattle.volume_laws.specs.Due.{event_or, is_unsafe}
use Rattle.event_machine.specs.Held.{Copying, SnapHeld, Going, Moving, number_of}

-- a copy whose pair may be committed
abbrev pub is_ready : Copying → Bool
is_ready p = is_stage Flushed p.stage

-- how many slots of the current area are in use
abbrev pub filled_of : SnapHeld → ℕ
filled_of h = length h.pairs % (32 * h.snap.chunk)

-- how many of the first copies the next write of the area commits: those that are ready, up to the end of the area
abbrev pub batch_of : SnapHeld → ℕ
batch_of h = min (32 * h.snap.chunk - filled_of h) (prefix_len is_ready h.copies)

-- the last of them fills the area
abbrev pub fills_area : SnapHeld → Bool
fills_area h = filled_of h + batch_of h == 32 * h.snap.chunk

-- and the next area is not zeroed yet
abbrev pub needs_area : SnapHeld → Bool
needs_area h = fills_area h && not h.zeroed

-- and is not firm yet
abbrev pub waits_for_area : SnapHeld → Bool
waits_for_area h = fills_area h && not h.firm

abbrev pub is_at : Stage → Copying → Bool
is_at stage p = is_stage stage p.stage

-- whether the first copy may be committed, and whether it waits for a flush of the store
abbrev pub is_front_ready : List Copying → Bool
is_front_ready [] = false
is_front_ready (p ∷ copies) = is_ready p

abbrev pub is_front_unflushed : List Copying → Bool
is_front_unflushed [] = false
is_front_unflushed (p ∷ copies) = is_at Written p

abbrev pub can_mark : SnapHeld → Bool
can_mark h = h.untried && not h.marked

abbrev pub can_commit : SnapHeld → Bool
can_commit h = is_front_ready h.copies && not (waits_for_area h)

abbrev pub can_zero : SnapHeld → Bool
can_zero h = is_front_ready h.copies && needs_area h

-- something waits for a flush of the store: an invalid mark, the first copy, the area that is zeroed for the first copies, or
-- a publication
abbrev pub can_flush_store : SnapHeld → Bool
can_flush_store h =
    (h.untried && h.marked) || is_front_unflushed h.copies || (is_front_ready h.copies && (waits_for_area h && not (needs_area h))) || list_any is_unsafe h.marks

abbrev pub number_of_copying : Copying → ℕ
number_of_copying p = p.number

-- the number of a snapshot's first copy at a stage
abbrev pub copy_at : Stage → SnapHeld → Option ℕ
copy_at stage h = first_by (is_at stage) number_of_copying h.copies

-- whether a request reads this chunk of the snapshot from the origin disk
abbrev pub is_reading : SnapHeld → ℕ → Going → Bool
is_reading h c r = (r.request.range.first / h.snap.chunk == c) && reads_origin_of h.snap.number (kind_of r.request) r.route

abbrev pub is_publishable : List Going → SnapHeld → Mark → Bool
is_publishable rs h m = m.safe && not (list_any (is_reading h m.chunk) rs)

-- the number of a snapshot's first mark that can be published
abbrev pub publishable_in : List Going → SnapHeld → Option ℕ
publishable_in rs h = first_by (is_publishable rs h) number_of_mark h.marks

abbrev pub is_issuable : Going → Bool
is_issuable r = is_routed r.route

abbrev pub number_of_going : Going → ℕ
number_of_going r = r.number

-- the least of what each snapshot has
abbrev pub least_in : (SnapHeld → Option ℕ) → List SnapHeld → Option ℕ
least_in f [] = None
least_in f (h ∷ snaps) = least (f h) (least_in f snaps)

-- the first of these events that there is: an invalid mark, a flush of a store, a publication, an area, zeros, a copy's write,
-- a copy's read, a request
abbrev pub chosen : Option ℕ → Option ℕ → Option ℕ → Option ℕ → Option ℕ → Option ℕ → Option ℕ → Option ℕ → Option Event
chosen invalid flush publish area zeros write read issue =
    event_or invalid WriteInvalid (event_or flush FlushStore (event_or publish Publish (event_or area WriteArea (event_or zeros ZeroNext (event_or write CopyWrite (event_or read CopyRead (event_or issue Issue None)))))))

abbrev pub due : Moving → Option Event
due v =
    chosen (first_by can_mark number_of v.snaps) (first_by can_flush_store number_of v.snaps) (least_in (publishable_in v.requests) v.snaps) (first_by can_commit number_of v.snaps) (first_by can_zero number_of v.snaps)
    (least_in (copy_at Read) v.snaps) (least_in (copy_at Waiting) v.snaps) (first_by is_issuable number_of_going v.requests)

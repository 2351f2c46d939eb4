-- What each event does to the devices and to what is in memory: one table decision, or one operation of one device. This
-- project's own; each step of a copy is one that the kernel's snapshot target does.
use Rattle.std.specs.Prelude.{◌==◌, ◌&&◌, not, ℕ, ◌+◌, ◌*◌, ◌/◌, ◌%◌, Bool, true, false, List, [], ◌∷◌, ◌++◌, length, take, drop, Option, Some, None, map, if◌then◌else◌}
use Rattle.std.specs.List.{flat_map, list_any}
use Rattle.sector.specs.Bytes.{sectors_at, with_part, with_sectors}
use Rattle.sector.specs.declared.pair.Pair.{Pair}
use Rattle.device.specs.declared.operation.Operation.{Operation}
use Rattle.device.specs.declared.operation.Operation.TheVariants.{Reads, Writes, Flushes}
use Rattle.plain_machine.specs.declared.event.Event.{Event}
use Rattle.plain_machine.specs.declared.event.Event.TheVariants.{Issue, CopyRead, CopyWrite, ZeroNext, WriteArea, Publish, WriteInvalid, FlushStore}
use Rattle.plain_machine.specs.declared.request.Dev.{Dev}
use Rattle.plain_machine.specs.declared.request.Dev.TheVariants.{Origin as ToOrigin, Snap as ToSnap}
use Rattle.plain_machine.specs.declared.request.Op.{Op}
use Rattle.plain_machine.specs.declared.request.Op.TheVariants.{Read as ReadOp, Write as WriteOp, Flush as FlushOp}
use Rattle.plain_machine.specs.declared.request.Reply.{Reply}
use Rattle.plain_machine.specs.declared.request.Reply.TheVariants.{Written as Done, Flushed, Refused as Declined}
use Rattle.plain_machine.specs.declared.request.Failure.TheVariants.{Invalid, Io}
use Rattle.cow_format.specs.Places.{area_place}
use Rattle.cow_format.specs.Slots.{pair_bytes}
use Rattle.in_flight.specs.Copies.{count_of}
use Rattle.in_flight.specs.declared.copies.Stage.{Stage}
use Rattle.in_flight.specs.declared.copies.Stage.TheVariants.{Waiting, Read, Written}
use Rattle.in_flight.specs.declared.copies.Mark.{Mark}
use Rattle.in_flight.specs.declared.flights.Route.{Route}
use Rattle.in_flight.specs.declared.flights.Route.TheVariants.{Held as Waits, Origin, Store, Whole, Refused}
use Rattle.whole_commands.specs.Saves.{marked, zeroed}
use Rattle.whole_commands.specs.Devices.{Device, sectors_of, answers, met, written_by, read_reply, flush_reply}
use Rattle.whole_commands.specs.Saving.{lacks_area}
use Rattle.event_machine.specs.Held.{Copying, SnapHeld, Going, MergeHeld, Moving, with_store, spoiled, flushed_held, on_device, with_merge}
use Rattle.event_machine.specs.Due.{filled_of, batch_of, can_mark, can_flush_store, can_commit, can_zero, is_at, is_publishable, is_issuable}
use Rattle.event_machine.specs.Again.{placed, refused, rerouted}

-- what is done with something, if it is there
abbrev pub for_some : {X : Type 0} → Option X → (X → Moving) → Moving → Moving
for_some None f otherwise = otherwise
for_some (Some x) f otherwise = f x

-- the first element that passes a test, and a list with another in its place
abbrev pub first_that : {X : Type 0} → (X → Bool) → List X → Option X
first_that test [] = None
first_that test (x ∷ xs) = if test x then Some x else first_that test xs

abbrev pub with_first : {X : Type 0} → (X → Bool) → X → List X → List X
with_first test y [] = []
with_first test y (x ∷ xs) = if test x then y ∷ xs else x ∷ with_first test y xs

abbrev pub without_first : {X : Type 0} → (X → Bool) → List X → List X
without_first test [] = []
without_first test (x ∷ xs) = if test x then xs else x ∷ without_first test xs

-- the snapshot that passed the test becomes another
abbrev pub put : (SnapHeld → Bool) → SnapHeld → Moving → Moving
put test h v = record v { snaps = with_first test h v.snaps }

-- or is spoiled: its requests are refused
abbrev pub spoil : (SnapHeld → Bool) → SnapHeld → Moving → Moving
spoil test h v = record v { snaps = with_first test (spoiled h) v.snaps; requests = map (refused h.snap.number) v.requests }

-- an operation that leaves its store with these bytes; where that fails it is spoiled
abbrev pub store_write : (SnapHeld → Bool) → SnapHeld → Operation → List ℕ → (SnapHeld → SnapHeld) → Moving → Moving
store_write test h op bytes next v =
    let after : SnapHeld = with_store h (written_by h.snap.store op bytes) in
    if answers h.snap.store op then put test (next after) v else spoil test after v

-- a copy's chunk is read from the origin disk
abbrev pub read_copy : (SnapHeld → Bool) → (Copying → Bool) → SnapHeld → Copying → Moving → Moving
read_copy test mine h p v =
    let count : ℕ = count_of h.snap.chunk (sectors_of v.origin) p.pair.old in
    let op : Operation = Reads (h.snap.chunk * p.pair.old) count in
    let read : Copying = record p { stage = Read; bytes = sectors_at v.origin.bytes (h.snap.chunk * p.pair.old) count } in
    let w : Moving = record v { origin = met v.origin op } in
    if answers v.origin op then put test (record h { copies = with_first mine read h.copies }) w else spoil test h w

-- it is written to its place
abbrev pub write_copy : (SnapHeld → Bool) → (Copying → Bool) → SnapHeld → Copying → Moving → Moving
write_copy test mine h p v =
    store_write test h (Writes (h.snap.chunk * p.pair.new) (count_of h.snap.chunk (sectors_of v.origin) p.pair.old)) (with_sectors h.snap.store.bytes (h.snap.chunk * p.pair.new) p.bytes)
    (λ after. record after { copies = with_first mine (record p { stage = Written }) after.copies }) v

-- the area after the current one is zeroed; a store that lacks it is spoiled
abbrev pub zero_next : (SnapHeld → Bool) → SnapHeld → Moving → Moving
zero_next test h v =
    let a : ℕ = length h.pairs / (32 * h.snap.chunk) + 1 in
    if lacks_area a h.snap then spoil test h v
    else store_write test h (Writes (h.snap.chunk * area_place h.snap.chunk a) h.snap.chunk) (zeroed h.snap.chunk h.snap.store.bytes a) (λ after. record after { zeroed = true; firm = false }) v

-- the pair of a copy, and the mark that it bears once it is committed
abbrev pub pair_of : Copying → Pair
pair_of p = p.pair

abbrev pub mark_of : Copying → Mark
mark_of p = record { number = p.number; chunk = p.pair.old; safe = false }

-- a store with these pairs in slot k and the next ones, all of one area
abbrev pub all_paired : ℕ → List ℕ → ℕ → List Pair → List ℕ
all_paired chunk store k pairs =
    with_part store (512 * (chunk * area_place chunk (k / (32 * chunk))) + 16 * (k % (32 * chunk))) (flat_map pair_bytes pairs)

-- so many of the first copies are committed, by one write of the area
abbrev pub commit : ℕ → (SnapHeld → Bool) → SnapHeld → Moving → Moving
commit count test h v =
    let k : ℕ = length h.pairs in
    let now : List Copying = take count h.copies in
    let room : Bool = not (filled_of h + count == 32 * h.snap.chunk) in
    store_write test h (Writes (h.snap.chunk * area_place h.snap.chunk (k / (32 * h.snap.chunk))) h.snap.chunk) (all_paired h.snap.chunk h.snap.store.bytes k (map pair_of now))
    (λ after. record after { pairs = after.pairs ++ map pair_of now; copies = drop count after.copies; marks = after.marks ++ map mark_of now; zeroed = after.zeroed && room; firm = after.firm && room }) v

-- a mark is taken away: held writes of the snapshot are routed again, and then those of the origin
abbrev pub publish : (SnapHeld → Bool) → (Mark → Bool) → SnapHeld → Moving → Moving
publish test mine h v =
    let after : SnapHeld = record h { marks = without_first mine h.marks } in
    rerouted (record v { snaps = with_first test after v.snaps; requests = map (placed after) v.requests })

-- A spoiled snapshot's header is marked invalid: the mark is written, and waits for a flush of the store; where the write fails
-- the mark is tried, and the store is stale.
abbrev pub mark_invalid : (SnapHeld → Bool) → SnapHeld → Moving → Moving
mark_invalid test h v =
    let op : Operation = Writes 0 h.snap.chunk in
    let after : SnapHeld = with_store h (written_by h.snap.store op (marked h.snap.chunk h.snap.store.bytes)) in
    if answers h.snap.store op then put test (record after { marked = true }) v
    else rerouted (put test (record after { snap = record after.snap { stale = true }; untried = false }) v)

-- A store is flushed. A mark that was written is tried, and the store is stale where the flush failed; a live snapshot whose
-- store was not flushed is spoiled.
abbrev pub flush_store : (SnapHeld → Bool) → SnapHeld → Moving → Moving
flush_store test h v =
    let after : SnapHeld = with_store h (met h.snap.store Flushes) in
    if h.marked then rerouted (put test (record after { snap = record after.snap { stale = not (answers h.snap.store Flushes) }; untried = false }) v)
    else (if answers h.snap.store Flushes then put test (flushed_held after) v else spoil test after v)

-- a request is answered
abbrev pub answer : (Going → Bool) → Reply → Moving → Moving
answer mine reply v = record v { requests = without_first mine v.requests; replied = Some reply }

-- the reply of a write
abbrev pub write_reply : Device → ℕ → ℕ → Reply
write_reply device first count = if answers device (Writes first count) then Done else Declined Io

-- a request of the origin disk
abbrev pub on_disk : Op → ℕ → ℕ → (Going → Bool) → Moving → Moving
on_disk ReadOp first count mine v = answer mine (read_reply v.origin first count) (record v { origin = met v.origin (Reads first count) })
on_disk (WriteOp bytes) first count mine v =
    answer mine (write_reply v.origin first count) (record v { origin = written_by v.origin (Writes first count) (with_sectors v.origin.bytes first bytes) })
on_disk FlushOp first count mine v = answer mine (flush_reply v.origin) (record v { origin = met v.origin Flushes })

-- of a place of a snapshot's store; no flush goes there
abbrev pub on_store : Op → ℕ → ℕ → (Going → Bool) → (SnapHeld → Bool) → SnapHeld → Moving → Moving
on_store ReadOp first count mine test h v = answer mine (read_reply h.snap.store first count) (put test (with_store h (met h.snap.store (Reads first count))) v)
on_store (WriteOp bytes) first count mine test h v =
    answer mine (write_reply h.snap.store first count) (put test (with_store h (written_by h.snap.store (Writes first count) (with_sectors h.snap.store.bytes first bytes))) v)
on_store FlushOp first count mine test h v = v

-- of a place of the merging store; no flush goes there
abbrev pub on_merging : Op → ℕ → ℕ → (Going → Bool) → MergeHeld → Moving → Moving
on_merging ReadOp first count mine m v = answer mine (read_reply m.merge.store first count) (with_merge (on_device m (met m.merge.store (Reads first count))) v)
on_merging (WriteOp bytes) first count mine m v =
    answer mine (write_reply m.merge.store first count) (with_merge (on_device m (written_by m.merge.store (Writes first count) (with_sectors m.merge.store.bytes first bytes))) v)
on_merging FlushOp first count mine m v = v

-- of the chunk `place` of the merging store, or of the store of a request's snapshot
abbrev pub on_place : Dev → Op → ℕ → ℕ → ℕ → (Going → Bool) → Moving → Moving
on_place ToOrigin op place first count mine v = for_some v.merge (λ m. on_merging op (m.merge.chunk * place + first % m.merge.chunk) count mine m v) v
on_place (ToSnap n) op place first count mine v =
    for_some (first_that (λ h. h.snap.number == n) v.snaps) (λ h. on_store op (h.snap.chunk * place + first % h.snap.chunk) count mine (λ k. k.snap.number == n) h v) v

-- A flush that is asked of a live snapshot is one of its store, and counts as one that an event does; where it fails it is
-- answered so, and the snapshot stays as it was.
abbrev pub flush_asked : (Going → Bool) → (SnapHeld → Bool) → SnapHeld → Moving → Moving
flush_asked mine test h v =
    let after : SnapHeld = with_store h (met h.snap.store Flushes) in
    if answers h.snap.store Flushes then answer mine Flushed (put test (flushed_held after) v) else answer mine (Declined Io) (put test after v)

-- A flush of the origin beside a merge goes to the merging store first, and then on to the origin's device.
abbrev pub flush_merging : (Going → Bool) → Going → MergeHeld → Moving → Moving
flush_merging mine r m v =
    let w : Moving = with_merge (on_device m (met m.merge.store Flushes)) v in
    if answers m.merge.store Flushes then record w { requests = with_first mine (record r { route = Origin }) w.requests } else answer mine (Declined Io) w

-- a flush of a store: of the one that is being merged, or of a request's snapshot
abbrev pub on_whole : Dev → (Going → Bool) → Going → Moving → Moving
on_whole ToOrigin mine r v = for_some v.merge (λ m. flush_merging mine r m v) v
on_whole (ToSnap n) mine r v = for_some (first_that (λ h. h.snap.number == n) v.snaps) (λ h. flush_asked mine (λ k. k.snap.number == n) h v) v

-- a request goes where its route says
abbrev pub issue : Route → (Going → Bool) → Going → Moving → Moving
issue Waits mine r v = v
issue Origin mine r v = on_disk r.request.op r.request.range.first r.request.range.count mine v
issue (Store place) mine r v = on_place r.request.dev r.request.op place r.request.range.first r.request.range.count mine v
issue Whole mine r v = on_whole r.request.dev mine r v
issue Refused mine r v = answer mine (Declined Invalid) v

-- whether a copy has this number and stage
abbrev pub is_copy : Stage → ℕ → Copying → Bool
is_copy stage n p = (p.number == n) && is_at stage p

-- an event of a copy
abbrev pub on_copy : Stage → ℕ → ((SnapHeld → Bool) → (Copying → Bool) → SnapHeld → Copying → Moving → Moving) → Moving → Moving
on_copy stage n f v =
    for_some (first_that (λ h. list_any (is_copy stage n) h.copies) v.snaps)
    (λ h. for_some (first_that (is_copy stage n) h.copies) (λ p. f (λ k. list_any (is_copy stage n) k.copies) (is_copy stage n) h p v) v) v

-- an event of a snapshot
abbrev pub on_snap : (SnapHeld → Bool) → ((SnapHeld → Bool) → SnapHeld → Moving → Moving) → Moving → Moving
on_snap test f v = for_some (first_that test v.snaps) (λ h. f test h v) v

-- whether a snapshot has the mark of this number, and it can be published beside these requests
abbrev pub publishes : List Going → ℕ → SnapHeld → Bool
publishes rs n h = list_any (λ m. (m.number == n) && is_publishable rs h m) h.marks

-- an event of a snapshot or a request that is due; any other changes nothing
abbrev pub stepped : Event → Moving → Moving
stepped (WriteInvalid n) v = on_snap (λ h. (h.snap.number == n) && can_mark h) mark_invalid v
stepped (FlushStore n) v = on_snap (λ h. (h.snap.number == n) && can_flush_store h) flush_store v
stepped (Publish n) v = on_snap (publishes v.requests n) (λ test h. publish test (λ m. m.number == n) h) v
stepped (WriteArea n) v = on_snap (λ h. (h.snap.number == n) && can_commit h) (λ test h. commit (batch_of h) test h) v
stepped (ZeroNext n) v = on_snap (λ h. (h.snap.number == n) && can_zero h) zero_next v
stepped (CopyWrite n) v = on_copy Read n write_copy v
stepped (CopyRead n) v = on_copy Waiting n read_copy v
stepped (Issue n) v = for_some (first_that (λ r. (r.number == n) && is_issuable r) v.requests) (λ r. issue r.route (λ k. k.number == n) r v) v
stepped event v = v

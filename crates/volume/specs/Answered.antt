-- To be believed, as soon as a volume stands over files: what is done ahead of an event is said in these words.
-- Whether the device that an event asks answers it, in the words of `event_machine`: an event does one operation of one device at
-- most. This project's own.
use Rattle.std.specs.Prelude.{◌==◌, ◌&&◌, ℕ, ◌+◌, ◌-◌, ◌*◌, ◌/◌, ◌%◌, Bool, true, false, not, nat_lt, List, [], ◌∷◌, length, Option, Some, None}
use Rattle.std.specs.List.{list_any}
use Rattle.sector.specs.declared.pair.Pair.{Pair}
use Rattle.device.specs.declared.operation.Operation.{Operation}
use Rattle.device.specs.declared.operation.Operation.TheVariants.{Reads, Writes, Flushes}
use Rattle.plain_machine.specs.declared.event.Event.{Event}
use Rattle.plain_machine.specs.declared.event.Event.TheVariants.{Issue, CopyRead, CopyWrite, ZeroNext, WriteArea, WriteInvalid, FlushStore, MergeAreaRead, MergeRead, MergeWrite, MergeFlush, MergeCommit}
use Rattle.plain_machine.specs.declared.request.Dev.{Dev}
use Rattle.plain_machine.specs.declared.request.Dev.TheVariants.{Origin as ToOrigin, Snap as ToSnap}
use Rattle.plain_machine.specs.declared.request.Op.{Op}
use Rattle.plain_machine.specs.declared.request.Op.TheVariants.{Read as ReadOp, Write as WriteOp, Flush as FlushOp}
use Rattle.cow_format.specs.Places.{area_place}
use Rattle.in_flight.specs.Copies.{count_of}
use Rattle.in_flight.specs.declared.copies.Stage.{Stage}
use Rattle.in_flight.specs.declared.copies.Stage.TheVariants.{Waiting, Read}
use Rattle.in_flight.specs.declared.flights.Route.{Route}
use Rattle.in_flight.specs.declared.flights.Route.TheVariants.{Held as Waits, Origin, Store, Whole, Refused}
use Rattle.volume_laws.specs.MergeDue.{last_of}
use Rattle.whole_commands.specs.Devices.{answers, sectors_of}
use Rattle.event_machine.specs.Held.{Copying, SnapHeld, Going, MergeHeld, Moving}
use Rattle.event_machine.specs.Due.{can_mark, can_flush_store, can_commit, can_zero, is_issuable}
use Rattle.event_machine.specs.Stepping.{first_that, is_copy}
use Rattle.event_machine.specs.MergeStepping.{sectors_in}

-- whether something passes a test, if it is there
abbrev pub if_some : {X : Type 0} → Option X → (X → Bool) → Bool
if_some None test = true
if_some (Some x) test = test x

-- the store of the snapshot that passes a test answers an operation
abbrev pub store_answers : (SnapHeld → Bool) → (SnapHeld → Operation) → Moving → Bool
store_answers test op v = if_some (first_that test v.snaps) (λ h. answers h.snap.store (op h))

-- the area of a store that its pairs end in, and the write of an area
abbrev pub area_of : SnapHeld → ℕ
area_of h = length h.pairs / (32 * h.snap.chunk)

abbrev pub area_write : ℕ → SnapHeld → Operation
area_write area h = Writes (h.snap.chunk * area_place h.snap.chunk area) h.snap.chunk

-- the copy of a number, at a stage, in its snapshot
abbrev pub copy_answers : Stage → ℕ → (SnapHeld → Copying → Bool) → Moving → Bool
copy_answers stage n met v = if_some (first_that (λ h. list_any (is_copy stage n) h.copies) v.snaps) (λ h. if_some (first_that (is_copy stage n) h.copies) (met h))

-- how many sectors a copy's chunk has on the origin
abbrev pub copied_sectors : SnapHeld → Copying → Moving → ℕ
copied_sectors h p v = count_of h.snap.chunk (sectors_of v.origin) p.pair.old

-- a request's operation, on so many sectors from this one on
abbrev pub operation_of : Op → ℕ → ℕ → Operation
operation_of ReadOp first count = Reads first count
operation_of (WriteOp bytes) first count = Writes first count
operation_of FlushOp first count = Flushes

-- a request goes to a chunk of the merging store, or of its snapshot's
abbrev pub place_answers : Dev → ℕ → Going → Moving → Bool
place_answers ToOrigin place r v = if_some v.merge (λ m. answers m.merge.store (operation_of r.request.op (m.merge.chunk * place + r.request.range.first % m.merge.chunk) r.request.range.count))
place_answers (ToSnap n) place r v = store_answers (λ h. h.snap.number == n) (λ h. operation_of r.request.op (h.snap.chunk * place + r.request.range.first % h.snap.chunk) r.request.range.count) v

-- a store is flushed for a request
abbrev pub flush_answers : Dev → Moving → Bool
flush_answers ToOrigin v = if_some v.merge (λ m. answers m.merge.store Flushes)
flush_answers (ToSnap n) v = store_answers (λ h. h.snap.number == n) (λ h. Flushes) v

-- a request goes where its route says
abbrev pub route_answers : Route → Going → Moving → Bool
route_answers Waits r v = true
route_answers Origin r v = answers v.origin (operation_of r.request.op r.request.range.first r.request.range.count)
route_answers (Store place) r v = place_answers r.request.dev place r v
route_answers Whole r v = flush_answers r.request.dev v
route_answers Refused r v = true

-- the chunk in a merge's buffer is written to the origin disk
abbrev pub chunk_answers : List Pair → MergeHeld → Moving → Bool
chunk_answers [] m v = true
chunk_answers (q ∷ pairs) m v = answers v.origin (Writes (m.merge.chunk * q.old) (sectors_in q m v))

-- An event that asks no device is answered. A store that is to zero its next area is asked whether or not it has room for it.
abbrev pub answers_event : Event → Moving → Bool
answers_event (WriteInvalid n) v = store_answers (λ h. (h.snap.number == n) && can_mark h) (λ h. Writes 0 h.snap.chunk) v
answers_event (FlushStore n) v = store_answers (λ h. (h.snap.number == n) && can_flush_store h) (λ h. Flushes) v
answers_event (WriteArea n) v = store_answers (λ h. (h.snap.number == n) && can_commit h) (λ h. area_write (area_of h) h) v
answers_event (ZeroNext n) v = store_answers (λ h. (h.snap.number == n) && can_zero h) (λ h. area_write (area_of h + 1) h) v
answers_event (CopyWrite n) v = copy_answers Read n (λ h p. answers h.snap.store (Writes (h.snap.chunk * p.pair.new) (copied_sectors h p v))) v
answers_event (CopyRead n) v = copy_answers Waiting n (λ h p. answers v.origin (Reads (h.snap.chunk * p.pair.old) (copied_sectors h p v))) v
answers_event (Issue n) v = if_some (first_that (λ r. (r.number == n) && is_issuable r) v.requests) (λ r. route_answers r.route r v)
answers_event MergeAreaRead v = if_some v.merge (λ m. answers m.merge.store (Reads (m.merge.chunk * area_place m.merge.chunk (m.merge.current - 1)) m.merge.chunk))
answers_event MergeRead v = if_some v.merge (λ m. if_some (last_of m.waiting) (λ q. answers m.merge.store (Reads (m.merge.chunk * q.new) (sectors_in q m v))))
answers_event MergeWrite v = if_some v.merge (λ m. chunk_answers m.reading m v)
answers_event MergeFlush v = if_some v.merge (λ m. answers v.origin Flushes)
answers_event MergeCommit v = if_some v.merge (λ m. answers m.merge.store (Writes (m.merge.chunk * area_place m.merge.chunk m.merge.current) m.merge.chunk))
answers_event event v = true

-- whether a request reads more sectors than a chunk may have: a device does not read so many ahead
abbrev pub reads_many : Op → ℕ → Bool
reads_many ReadOp count = nat_lt 1024 count
reads_many (WriteOp bytes) count = false
reads_many FlushOp count = false

-- whether something is there and passes a test
abbrev pub has_passed : {X : Type 0} → Option X → (X → Bool) → Bool
has_passed None test = false
has_passed (Some x) test = test x

-- whether an event issues such a request
abbrev pub reads_too_many : Event → Moving → Bool
reads_too_many (Issue n) v = has_passed (first_that (λ r. (r.number == n) && is_issuable r) v.requests) (λ r. reads_many r.request.op r.request.range.count)
reads_too_many event v = false

-- What is told ahead of an event: whether it is answered, but that of an Issue that reads more than that it is told that it is not.
abbrev pub is_told : Event → Moving → Bool
is_told (Issue n) v = if_some (first_that (λ r. (r.number == n) && is_issuable r) v.requests) (λ r. not (reads_many r.request.op r.request.range.count) && route_answers r.route r v)
is_told event v = answers_event event v

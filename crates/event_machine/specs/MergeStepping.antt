-- What each event of a merge does to the devices and to what is in memory: one table decision, or one operation of one device.
-- The group and its order are those of the kernel's dm-snap.c and dm-snap-persistent.c; that an operation that fails stops the
-- merge is this project's own rule.
use Rattle.std.specs.Prelude.{ℕ, ◌+◌, ◌-◌, ◌*◌, Bool, true, false, List, [], ◌∷◌, length, take, Option, Some, None, if◌then◌else◌}
use Rattle.sector.specs.Bytes.{sectors_at, with_sectors}
use Rattle.sector.specs.declared.pair.Pair.{Pair}
use Rattle.device.specs.declared.operation.Operation.{Operation}
use Rattle.device.specs.declared.operation.Operation.TheVariants.{Reads, Writes, Flushes}
use Rattle.plain_machine.specs.declared.event.Event.{Event}
use Rattle.plain_machine.specs.declared.event.Event.TheVariants.{Publish, MergeGroup, MergeAreaRead, MergeRead, MergeWrite, MergeFlush, MergeCommit, MergeRelease}
use Rattle.cow_format.specs.Places.{area_place}
use Rattle.in_flight.specs.Copies.{count_of}
use Rattle.volume_laws.specs.MergeDue.{last_of}
use Rattle.whole_commands.specs.Devices.{sectors_of, answers, met, written_by}
use Rattle.whole_commands.specs.Merges.{Merge, last_run, without_slots}
use Rattle.event_machine.specs.Held.{MergeHeld, Moving, on_device, with_merge}
use Rattle.event_machine.specs.Again.{next_over, rerouted}
use Rattle.event_machine.specs.MergeDue.{in_area, next_of, can_group, can_read_area, can_read, can_write, can_flush, can_commit_group, can_release}
use Rattle.event_machine.specs.Stepping.{for_some, first_that, publishes, stepped}
use Rattle.event_machine.specs.Submitting.{start_copies}

-- no group is formed any more; the pairs that are not committed away stay
abbrev pub without_group : MergeHeld → MergeHeld
without_group m = record m { waiting = []; reading = []; buffer = []; copied = []; released = []; flushed = false }

-- the group ends: held origin writes are routed again
abbrev pub end_group : MergeHeld → Moving → Moving
end_group m v = rerouted (with_merge (without_group m) v)

-- an operation of the merge failed: the merge stops
abbrev pub stop : MergeHeld → Moving → Moving
stop m v = end_group (record m { merge = record m.merge { failed = true } }) v

-- For the pair that is copied next: in each other snapshot the copy of the first chunk is started that it has not published,
-- of those that the pair's chunk touches.
abbrev pub start_next : ℕ → Option Pair → Moving → Moving
start_next chunk None v = v
start_next chunk (Some q) v = start_copies (next_over (chunk * q.old) (count_of chunk (sectors_of v.origin) q.old)) v

-- the same for the merge as it stands; nothing where it has no pair to copy
abbrev pub start_waiting : Moving → Moving
start_waiting v = for_some v.merge (λ m. start_next m.merge.chunk (next_of m) v) v

-- the last run of pairs of the area is the group
abbrev pub form_group : MergeHeld → Moving → Moving
form_group m v =
    let group : List Pair = last_run (in_area m) in
    start_next m.merge.chunk (last_of group) (with_merge (record m { waiting = group }) v)

-- all pairs but the last
abbrev pub without_last : List Pair → List Pair
without_last [] = []
without_last (p ∷ []) = []
without_last (p ∷ q ∷ pairs) = p ∷ without_last (q ∷ pairs)

-- how many sectors a pair's chunk has on the origin
abbrev pub sectors_in : Pair → MergeHeld → Moving → ℕ
sectors_in q m v = count_of m.merge.chunk (sectors_of v.origin) q.old

-- the chunk of the last waiting pair is read into the buffer
abbrev pub read_chunk : Option Pair → MergeHeld → Moving → Moving
read_chunk None m v = v
read_chunk (Some q) m v =
    let place : ℕ = m.merge.chunk * q.new in
    let op : Operation = Reads place (sectors_in q m v) in
    let after : MergeHeld = on_device m (met m.merge.store op) in
    if answers m.merge.store op then
    with_merge (record after { waiting = without_last m.waiting; reading = q ∷ []; buffer = sectors_at m.merge.store.bytes place (sectors_in q m v) }) v
    else stop after v

-- it is written to the origin disk
abbrev pub write_chunk : List Pair → MergeHeld → Moving → Moving
write_chunk [] m v = v
write_chunk (q ∷ pairs) m v =
    let first : ℕ = m.merge.chunk * q.old in
    let op : Operation = Writes first (sectors_in q m v) in
    let w : Moving = record v { origin = written_by v.origin op (with_sectors v.origin.bytes first m.buffer) } in
    if answers v.origin op then
    start_next m.merge.chunk (last_of m.waiting) (with_merge (record m { reading = []; buffer = []; copied = q ∷ m.copied }) w)
    else stop m w

-- the origin is flushed
abbrev pub flush_origin : MergeHeld → Moving → Moving
flush_origin m v =
    let w : Moving = record v { origin = met v.origin Flushes } in
    if answers v.origin Flushes then with_merge (record m { flushed = true }) w else stop m w

-- the area is written without the group's pairs
abbrev pub commit_group : MergeHeld → Moving → Moving
commit_group m v =
    let g : Merge = m.merge in
    let count : ℕ = length m.copied in
    let kept : ℕ = length (in_area m) - count in
    let op : Operation = Writes (g.chunk * area_place g.chunk g.current) g.chunk in
    let after : MergeHeld = on_device m (written_by g.store op (without_slots g.chunk g.store.bytes g.current kept count)) in
    if answers g.store op then
    with_merge (record after {
      merge = record after.merge { next = area_place g.chunk g.current + kept + 1 };
      pairs = take (length m.pairs - count) m.pairs;
      copied = [];
      released = m.copied;
    }) v
    else stop after v

-- the area before is read, and pairs are taken from it
abbrev pub read_area : MergeHeld → Moving → Moving
read_area m v =
    let g : Merge = m.merge in
    let op : Operation = Reads (g.chunk * area_place g.chunk (g.current - 1)) g.chunk in
    let after : MergeHeld = on_device m (met g.store op) in
    if answers g.store op then with_merge (record after { merge = record after.merge { current = g.current - 1 } }) v else stop after v

-- what is done with the merge, if it passes a test
abbrev pub on_merge : (MergeHeld → Bool) → (MergeHeld → Moving → Moving) → Moving → Moving
on_merge test f v = for_some v.merge (λ m. if test m then f m v else v) v

-- A mark is taken away, and the copies are started that the merge waits for then: its next pair's chunk may touch several of
-- a snapshot, which are copied one after the other.
abbrev pub publish_all : ℕ → Moving → Moving
publish_all n v = for_some (first_that (publishes v.requests n) v.snaps) (λ h. start_waiting (stepped (Publish n) v)) v

-- an event that is due, of the merge, a snapshot or a request; any other changes nothing
abbrev pub stepped_all : Event → Moving → Moving
stepped_all MergeGroup v = on_merge can_group form_group v
stepped_all MergeAreaRead v = on_merge can_read_area read_area v
stepped_all MergeRead v = on_merge (can_read v.requests) (λ m. read_chunk (last_of m.waiting) m) v
stepped_all MergeWrite v = on_merge (can_write (sectors_of v.origin) v.snaps) (λ m. write_chunk m.reading m) v
stepped_all MergeFlush v = on_merge can_flush flush_origin v
stepped_all MergeCommit v = on_merge can_commit_group commit_group v
stepped_all MergeRelease v = on_merge (can_release v.requests) end_group v
stepped_all (Publish n) v = publish_all n v
stepped_all event v = stepped event v

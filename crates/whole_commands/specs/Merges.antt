-- To be believed: `run`'s output, a volume's steps or its attach are said in these words.
-- A snapshot is merged back into its origin, in big steps, on devices that may fail: the origin reads as the snapshot from the
-- beginning on, and the snapshot's chunks are copied to the origin disk from the last pair backwards. The order of the pairs
-- and the groups are those of the kernel's dm-snap.c and dm-snap-persistent.c; that the first operation that fails stops the
-- merge, which may go on later, is this project's own rule.
use Rattle.std.specs.Prelude.{◌==◌, ◌&&◌, not, ℕ, zero, suc, ◌+◌, ◌-◌, ◌*◌, ◌/◌, ◌%◌, nat_lt, Bool, true, false, List, [], ◌∷◌, ◌++◌, length, take, drop, min, replicate, is_some, Option, Some, None, if◌then◌else◌}
use Rattle.std.specs.Option.{unwrap_or}
use Rattle.sector.specs.Bytes.{sectors_at, with_part, with_sectors}
use Rattle.sector.specs.declared.pair.Pair.{Pair}
use Rattle.device.specs.declared.operation.Operation.{Operation}
use Rattle.device.specs.declared.operation.Operation.TheVariants.{Reads, Writes, Flushes}
use Rattle.chunk.specs.Pieces.{Span, pieces_of, chunks_over}
use Rattle.cow_format.specs.Places.{area_place}
use Rattle.cow_format.specs.Pairs.{pairs_of}
use Rattle.cow_format.specs.Picture.{place_of}
use Rattle.in_flight.specs.Copies.{count_of}
use Rattle.in_flight.specs.Due.{first_by}
use Rattle.plain_machine.specs.declared.request.Dev.{Dev}
use Rattle.plain_machine.specs.declared.request.Dev.TheVariants.{Origin, Snap as ToSnap}
use Rattle.plain_machine.specs.declared.request.Reply.TheVariants.{Data, Written, Refused}
use Rattle.plain_machine.specs.declared.request.Failure.TheVariants.{Io}
use Rattle.whole_commands.specs.Devices.{Device, sectors_of, answers, met, written_by, read_reply}
use Rattle.whole_commands.specs.Snaps.{Snap, Volume}
use Rattle.whole_commands.specs.Saving.{next_place, has_chunk}
use Rattle.whole_commands.specs.Pieces.{Answered, save_at, write_origin, read_origin, flush_origin}
use Rattle.whole_commands.specs.Commands.{write_piece, read_piece, flushed, go_on, bytes_in, piece_of}
use Rattle.whole_commands.specs.Attaching.{Store, last_area, detached}

-- A snapshot that is merged: its number, the sectors of its chunks, whether an operation of the merge failed, the area that
-- pairs are taken from, the place that status counts up to, and its store.
pub record Merge : Type 0 where
  pub number : ℕ
  pub chunk : ℕ
  pub failed : Bool
  pub current : ℕ
  pub next : ℕ
  pub store : Device

-- a volume, the merged snapshot not among its snapshots, and the merge, if one is begun
pub record Merged : Type 0 where
  pub volume : Volume
  pub merge : Option Merge

-- a volume with a merge
pub record Merging : Type 0 where
  pub volume : Volume
  pub merge : Merge

abbrev pub merged_of : Merging → Merged
merged_of m = record { volume = m.volume; merge = Some m.merge }

-- the pairs whose chunks are not yet on the origin disk: those of the store's bytes
abbrev pub pairs_in : Merge → List Pair
pairs_in g = pairs_of g.chunk g.store.bytes

-- the merge of a live snapshot begins: no device is touched
abbrev pub merge_of : Snap → Merge
merge_of s = record { number = s.number; chunk = s.chunk; failed = false; current = last_area s.chunk s.store.bytes; next = next_place s; store = s.store }

-- the snapshot of a number, the first that has it
abbrev pub snap_named : ℕ → List Snap → Option Snap
snap_named number [] = None
snap_named number (s ∷ snaps) = if s.number == number then Some s else snap_named number snaps

abbrev pub begun_with : Option Snap → ℕ → Volume → Merged
begun_with None number v = record { volume = v; merge = None }
begun_with (Some s) number v =
    if s.live then record { volume = record { origin = v.origin; snaps = detached number v.snaps }; merge = Some (merge_of s) } else record { volume = v; merge = None }

-- begin: nothing where a merge is begun, or the snapshot is not there, or not live
abbrev pub begun : ℕ → Merged → Merged
begun number m = if is_some m.merge then m else begun_with (snap_named number m.volume.snaps) number m.volume

-- the merge failed
abbrev pub stopped : Merging → Merging
stopped m = record m { merge = record m.merge { failed = true } }

-- what follows, where nothing failed so far
abbrev pub going : (Merging → Merging) → Merging → Merging
going next m = if m.merge.failed then m else next m

abbrev pub with_store : Merging → Device → Merging
with_store m device = record m { merge = record m.merge { store = device } }

abbrev pub with_origin : Merging → Device → Merging
with_origin m device = record m { volume = record m.volume { origin = device } }

-- of the chunks that so many sectors touch from this one on, the first that a snapshot's store has no copy of
abbrev pub unsaved_in : ℕ → ℕ → Snap → Option ℕ
unsaved_in first count s = first_by (λ c. not (has_chunk c s)) (λ c. c) (chunks_over s.chunk first count)

-- that one; or the one that these sectors begin in, where it has them all
abbrev pub next_over : ℕ → ℕ → Snap → ℕ
next_over first count s = unwrap_or (unsaved_in first count s) (first / s.chunk)

-- One round: each snapshot saves the first of these chunks that it lacks.
abbrev pub saved_round : ℕ → ℕ → Volume → Volume
saved_round first count v = save_at (next_over first count) v.origin v.snaps

abbrev pub saved_rounds : ℕ → ℕ → ℕ → Volume → Volume
saved_rounds first count zero v = v
saved_rounds first count (suc n) v = saved_rounds first count n (saved_round first count v)

-- Each other snapshot saves all chunks that so many sectors touch from this one on, the lowest first. The snapshots take
-- turns, so that their reads of the origin meet in this order. None of them lacks more chunks than there are sectors.
abbrev pub saved_over : ℕ → ℕ → Merging → Merging
saved_over first count m = record m { volume = saved_rounds first count count m.volume }

-- a read of the store
abbrev pub read_then : Operation → (Merging → Merging) → Merging → Merging
read_then op next m =
    let after : Merging = with_store m (met m.merge.store op) in
    if answers m.merge.store op then next after else stopped after

-- bytes are written to the origin disk
abbrev pub write_disk : ℕ → ℕ → List ℕ → Merging → Merging
write_disk first count bytes m =
    let op : Operation = Writes first count in
    let after : Merging = with_origin m (written_by m.volume.origin op (with_sectors m.volume.origin.bytes first bytes)) in
    if answers m.volume.origin op then after else stopped after

-- how many sectors a pair's chunk has on the origin
abbrev pub sectors_in : Pair → Merging → ℕ
sectors_in p m = count_of m.merge.chunk (sectors_of m.volume.origin) p.old

-- The chunk of one pair is copied to the origin disk. Each other snapshot saves first what it touches.
abbrev pub copy_back : Pair → Merging → Merging
copy_back p m =
    read_then (Reads (m.merge.chunk * p.new) (sectors_in p m))
    (write_disk (m.merge.chunk * p.old) (sectors_in p m) (sectors_at m.merge.store.bytes (m.merge.chunk * p.new) (sectors_in p m)))
    (saved_over (m.merge.chunk * p.old) (sectors_in p m) m)

-- the chunks of these pairs, from the last backwards
abbrev pub copy_all : List Pair → Merging → Merging
copy_all [] m = m
copy_all (p ∷ pairs) m = going (copy_back p) (copy_all pairs m)

-- the second pair's chunks are those after the first's
abbrev pub follows : Pair → Pair → Bool
follows p q = (q.old == p.old + 1) && (q.new == p.new + 1)

-- pairs whose chunks both rise by one from each to the next
abbrev pub rise_from : Pair → List Pair → Bool
rise_from p [] = true
rise_from p (q ∷ pairs) = follows p q && rise_from q pairs

-- the longest end of a list that is such a run
abbrev pub last_run : List Pair → List Pair
last_run [] = []
last_run (p ∷ pairs) = if rise_from p pairs then p ∷ pairs else last_run pairs

-- the pairs that stand in the area they are taken from
abbrev pub in_area : Merge → List Pair
in_area g = drop (g.current * (32 * g.chunk)) (pairs_in g)

-- the next group
abbrev pub group_of : Merge → List Pair
group_of g = last_run (in_area g)

-- how many slots of the area stay
abbrev pub kept_in : Merge → ℕ
kept_in g = length (in_area g) - length (group_of g)

-- the origin is flushed
abbrev pub flush : Merging → Merging
flush m =
    let after : Merging = with_origin m (met m.volume.origin Flushes) in
    if answers m.volume.origin Flushes then after else stopped after

-- the store with so many slots of area a zeroed, from slot j on
abbrev pub without_slots : ℕ → List ℕ → ℕ → ℕ → ℕ → List ℕ
without_slots chunk store a j count = with_part store (512 * (chunk * area_place chunk a) + 16 * j) (replicate (16 * count) 0)

-- the area is written without so many of its pairs, from slot j on
abbrev pub clear_slots : ℕ → ℕ → Merging → Merging
clear_slots j count m =
    let g : Merge = m.merge in
    let op : Operation = Writes (g.chunk * area_place g.chunk g.current) g.chunk in
    let after : Merging = with_store m (written_by g.store op (without_slots g.chunk g.store.bytes g.current j count)) in
    if answers g.store op then record after { merge = record after.merge { next = area_place g.chunk g.current + j + 1 } } else stopped after

-- one group: its chunks are copied, the origin is flushed, and its slots are cleared
abbrev pub merge_group : Merging → Merging
merge_group m = going (clear_slots (kept_in m.merge) (length (group_of m.merge))) (going flush (copy_all (group_of m.merge) m))

-- the area before is read, and pairs are taken from it
abbrev pub read_before : Merging → Merging
read_before m =
    let g : Merge = m.merge in
    read_then (Reads (g.chunk * area_place g.chunk (g.current - 1)) g.chunk) (λ after. record after { merge = record after.merge { current = g.current - 1 } }) m

-- a group, or the read of the area before an empty one; nothing where no pair is left
abbrev pub merge_step : Merging → Merging
merge_step m =
    if nat_lt 0 (length (in_area m.merge)) then merge_group m
    else (if m.merge.current == 0 then m else read_before m)

-- so many of these, until one fails
abbrev pub merge_steps : ℕ → Merging → Merging
merge_steps zero m = m
merge_steps (suc n) m = going (λ k. merge_steps n (merge_step k)) m

-- the whole merge: there are no more groups than pairs, and no more reads than areas
abbrev pub merge_all : Merging → Merging
merge_all m = merge_steps (length (pairs_in m.merge) + m.merge.current) m

abbrev pub merged_by : Option Merge → Volume → Merged
merged_by None v = record { volume = v; merge = None }
merged_by (Some g) v = merged_of (merge_all (record { volume = v; merge = g }))

abbrev pub merged : Merged → Merged
merged m = merged_by m.merge m.volume

-- a merge that failed may go on
abbrev pub resumed_by : Option Merge → Volume → Merged
resumed_by None v = record { volume = v; merge = None }
resumed_by (Some g) v = record { volume = v; merge = Some (record g { failed = false }) }

abbrev pub resumed : Merged → Merged
resumed m = resumed_by m.merge m.volume

-- what a finish leaves: the volume, and the store that is given back
pub record Finished : Type 0 where
  pub state : Merged
  pub back : Option Store

abbrev pub finished_by : Option Merge → Volume → Finished
finished_by None v = record { state = record { volume = v; merge = None }; back = None }
finished_by (Some g) v =
    if nat_lt 0 (length (pairs_in g)) then record { state = record { volume = v; merge = Some g }; back = None }
    else record { state = record { volume = v; merge = None }; back = Some (record { device = g.store; stale = false }) }

-- finish: the merge is taken out where no pair is left
abbrev pub finished : Merged → Finished
finished m = finished_by m.merge m.volume

-- a request that the merging store has no part in
abbrev pub beside : Merge → Answered Volume → Answered Merging
beside g a = record { state = record { volume = a.state; merge = g }; reply = a.reply }

-- the place of a sector of the origin in the store, where its chunk stands in chunk n
abbrev pub sector_in : ℕ → Span → Merge → ℕ
sector_in n piece g = g.chunk * n + piece.first % g.chunk

-- a write of one piece of the origin, by the place of its chunk
abbrev pub write_at : Option ℕ → Span → List ℕ → Merging → Answered Merging
write_at None piece bytes m = beside m.merge (write_origin piece bytes m.volume)
write_at (Some n) piece bytes m =
    let store : Device = m.merge.store in
    let op : Operation = Writes (sector_in n piece m.merge) piece.count in record {
      state = with_store m (written_by store op (with_sectors store.bytes (sector_in n piece m.merge) bytes));
      reply = if answers store op then Written else Refused Io;
    }

-- a read
abbrev pub read_at : Option ℕ → Span → Merging → Answered Merging
read_at None piece m = beside m.merge (read_origin piece m.volume)
read_at (Some n) piece m = record {
  state = with_store m (met m.merge.store (Reads (sector_in n piece m.merge) piece.count));
  reply = read_reply m.merge.store (sector_in n piece m.merge) piece.count;
}

-- the place of the chunk of a sector
abbrev pub place_in : ℕ → Merge → Option ℕ
place_in first g = place_of (pairs_in g) (first / g.chunk)

-- one piece of the origin or of a snapshot is written, or read; the other snapshots are served as without a merge
abbrev pub write_part : Dev → Span → List ℕ → Merging → Answered Merging
write_part Origin piece bytes m = write_at (place_in piece.first m.merge) piece bytes m
write_part (ToSnap number) piece bytes m = beside m.merge (write_piece (ToSnap number) piece bytes m.volume)

abbrev pub read_part : Dev → Span → Merging → Answered Merging
read_part Origin piece m = read_at (place_in piece.first m.merge) piece m
read_part (ToSnap number) piece m = beside m.merge (read_piece (ToSnap number) piece m.volume)

-- A flush of the origin: of the merging store, and then of the origin's device. That the store comes first, so that what was
-- written to it is safe before what was copied from it, is this project's own rule.
abbrev pub flush_through : Merging → Answered Merging
flush_through m =
    let after : Merging = with_store m (met m.merge.store Flushes) in
    if answers m.merge.store Flushes then beside after.merge (flush_origin after.volume) else record { state = after; reply = Refused Io }

-- a settled flush while a merge is begun
abbrev pub flushed_through : Dev → Merging → Answered Merging
flushed_through Origin m = flush_through m
flushed_through (ToSnap number) m = beside m.merge (flushed (ToSnap number) m.volume)

-- the pieces of a write, each with its part of the bytes, and those of a read, after these bytes
abbrev pub write_parts : Dev → List Span → List ℕ → Merging → Answered Merging
write_parts dev [] bytes m = record { state = m; reply = Written }
write_parts dev (piece ∷ pieces) bytes m =
    let here = write_part dev piece (take (512 * piece.count) bytes) m in
    go_on here.reply here (write_parts dev pieces (drop (512 * piece.count) bytes) here.state)

abbrev pub read_parts : Dev → List Span → List ℕ → Merging → Answered Merging
read_parts dev [] before m = record { state = m; reply = Data before }
read_parts dev (piece ∷ pieces) before m =
    let here = read_part dev piece m in
    go_on here.reply here (read_parts dev pieces (before ++ bytes_in here.reply) here.state)

-- requests go by the least chunk size, that of the merge among them
abbrev pub least_chunk : Merging → ℕ
least_chunk m = min m.merge.chunk (piece_of m.volume.snaps)

-- a settled write and a settled read while a merge is begun
unfoldable pub written_through : Dev → Span → List ℕ → Merging → Answered Merging
written_through dev span bytes m = write_parts dev (pieces_of (least_chunk m) span) bytes m

unfoldable pub read_through : Dev → Span → Merging → Answered Merging
read_through dev span m = read_parts dev (pieces_of (least_chunk m) span) [] m

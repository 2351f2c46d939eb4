-- To be believed: `run`'s output, a volume's steps or its attach are said in these words.
-- Saving one chunk of the origin for a snapshot, on devices that may fail: at most one read of the origin, one write of the
-- copy, one of the next area's zeros, and one of the pair's area, each as `Saves` has it, and a flush of the store after each
-- write; the first operation that fails spoils the snapshot. The format is that of dm-snap-persistent.c; that a spoiled store
-- is marked, and that each write is flushed before the next, is this project's own rule.
use Rattle.std.specs.Prelude.{◌==◌, ◌&&◌, ◌||◌, not, ℕ, ◌+◌, ◌*◌, ◌/◌, ◌%◌, nat_lt, is_some, Bool, false, List, length, if◌then◌else◌}
use Rattle.sector.specs.declared.pair.Pair.{Pair}
use Rattle.device.specs.declared.operation.Operation.TheVariants.{Reads, Writes, Flushes}
use Rattle.cow_format.specs.Places.{area_place}
use Rattle.cow_format.specs.Pairs.{pairs_of}
use Rattle.cow_format.specs.Picture.{place_of}
use Rattle.in_flight.specs.Copies.{count_of}
use Rattle.whole_commands.specs.Saves.{next_of, marked, copied, zeroed, paired}
use Rattle.whole_commands.specs.Devices.{Device, sectors_of, answers, met, written_by}
use Rattle.whole_commands.specs.Snaps.{Snap}

-- a spoiled store's device, whose header is written
abbrev pub header_written : Snap → Device
header_written s = written_by s.store (Writes 0 s.chunk) (marked s.chunk s.store.bytes)

-- The snapshot is spoiled: its header is marked invalid, by one write, and where that is answered the store is flushed. Where
-- either fails the store is stale.
abbrev pub spoilt : Snap → Snap
spoilt s = record s {
  live = false;
  stale = not (answers s.store (Writes 0 s.chunk) && answers (header_written s) Flushes);
  store = if answers s.store (Writes 0 s.chunk) then met (header_written s) Flushes else header_written s;
}

-- A flush of its store. Where it fails the snapshot is spoiled, else it goes on.
abbrev pub flush_then : (Snap → Snap) → Snap → Snap
flush_then next s =
    let after : Snap = record s { store = met s.store Flushes } in
    if answers s.store Flushes then next after else spoilt after

-- A write of so many sectors to its store's chunk n, which leaves the store with these bytes, and then a flush. Where either
-- fails the snapshot is spoiled, else it goes on.
abbrev pub write_then : Snap → ℕ → ℕ → List ℕ → (Snap → Snap) → Snap
write_then s n count bytes next =
    let after : Snap = record s { store = written_by s.store (Writes (s.chunk * n) count) bytes } in
    if answers s.store (Writes (s.chunk * n) count) then flush_then next after else spoilt after

-- the area of slot k is written with a pair in that slot, where the slots of all areas are counted on
abbrev pub write_pair : ℕ → Pair → Snap → Snap
write_pair k pair s = write_then s (area_place s.chunk (k / (32 * s.chunk))) s.chunk (paired s.chunk s.store.bytes k pair) (λ t. t)

-- whether the store lacks area a
abbrev pub lacks_area : ℕ → Snap → Bool
lacks_area a s = nat_lt (length s.store.bytes) (512 * (s.chunk * (area_place s.chunk a + 1)))

-- The pair is committed to slot k. Where it fills its area, the next area is zeroed first; a store that lacks that area is
-- spoiled.
abbrev pub commit : ℕ → Pair → Snap → Snap
commit k pair s =
    if (k + 1) % (32 * s.chunk) == 0 then
    (if lacks_area ((k + 1) / (32 * s.chunk)) s then spoilt s
    else write_then s (area_place s.chunk ((k + 1) / (32 * s.chunk))) s.chunk (zeroed s.chunk s.store.bytes ((k + 1) / (32 * s.chunk))) (write_pair k pair))
    else write_pair k pair s

-- the chunk that was read from an origin disk with these bytes is written to its place, and its pair is committed
abbrev pub copy : List ℕ → Pair → Snap → Snap
copy disk pair s =
    write_then s pair.new (count_of s.chunk (length disk / 512) pair.old) (copied s.chunk disk s.store.bytes pair.old pair.new)
    (commit (length (pairs_of s.chunk s.store.bytes)) pair)

-- the place that is handed out next
abbrev pub next_place : Snap → ℕ
next_place s = next_of s.chunk (pairs_of s.chunk s.store.bytes)

-- whether that is not wholly inside the store
abbrev pub is_full : Snap → Bool
is_full s = nat_lt (length s.store.bytes) (512 * (s.chunk * (next_place s + 1)))

-- whether the store has a copy of chunk c
abbrev pub has_chunk : ℕ → Snap → Bool
has_chunk c s = is_some (place_of (pairs_of s.chunk s.store.bytes) c)

-- the origin's device and a snapshot
pub record Saving : Type 0 where
  pub origin : Device
  pub snap : Snap

-- Chunk c of the origin is saved: nothing where the snapshot is not live, or has it. A store that is full is spoiled. Else
-- the chunk is read, written to the next place, and its pair is committed.
unfoldable pub save : ℕ → Device → Snap → Saving
save c origin s =
    if not s.live || has_chunk c s then record { origin = origin; snap = s }
    else (if is_full s then record { origin = origin; snap = spoilt s }
    else (let read = Reads (s.chunk * c) (count_of s.chunk (sectors_of origin) c) in record {
      origin = met origin read;
      snap = if answers origin read then copy origin.bytes (record { old = c; new = next_place s }) s else spoilt s;
    }))

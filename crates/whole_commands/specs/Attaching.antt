-- To be believed: `run`'s output, a volume's steps or its attach are said in these words.
-- Attaching a snapshot over a device that may fail, and giving its store back: what is read and written, in what order, and
-- each refusal. The format is that of dm-snap-persistent.c; the order of the tests and of the writes, that the origin and the
-- store are flushed before the first write and the store after each, and that the first operation that fails ends it with Io,
-- are this project's rules.
use Rattle.std.specs.Prelude.{◌==◌, ℕ, zero, suc, ◌+◌, ◌*◌, ◌/◌, ◌%◌, nat_lt, Bool, false, true, ◌&&◌, not, List, [], ◌∷◌, ◌++◌, length, drop, Option, Some, None, Result, Ok, Err, if◌then◌else◌}
use Rattle.std.specs.List.{list_all}
use Rattle.sector.specs.Bytes.{with_part, sector_at}
use Rattle.sector.specs.declared.refusal.Refusal.{Refusal}
use Rattle.sector.specs.declared.refusal.Refusal.TheVariants.{Io, TooMany, BadChunk, StoreTooSmall, Damaged, Stale}
use Rattle.plain_machine.specs.declared.request.Overflowing.{Overflowing}
use Rattle.device.specs.declared.operation.Operation.{Operation}
use Rattle.device.specs.declared.operation.Operation.TheVariants.{Reads, Writes, Flushes}
use Rattle.chunk.specs.Sizes.{is_chunk}
use Rattle.cow_format.specs.Places.{chunk_at, area_place}
use Rattle.cow_format.specs.Pairs.{pairs_of}
use Rattle.cow_header.specs.HeaderText.{header_bytes, found_in}
use Rattle.cow_header.specs.declared.found.Found.{Found}
use Rattle.cow_header.specs.declared.found.Found.TheVariants.{Fresh, Header}
use Rattle.whole_commands.specs.Saves.{zeroed}
use Rattle.whole_commands.specs.Loads.{trimmed, is_loadable, is_too_small}
use Rattle.whole_commands.specs.Devices.{Device, sectors_of, answers, met, written_by}
use Rattle.whole_commands.specs.Snaps.{Snap, Volume}

-- the origin's device and a store's device so far, and the sectors of its chunks, or why it is refused
pub record Tried : Type 0 where
  pub origin : Device
  pub device : Device
  pub outcome : Result ℕ Refusal

abbrev pub refuse : Refusal → Device → Device → Tried
refuse refusal origin device = record { origin = origin; device = device; outcome = Err refusal }

-- an operation on the store, and what follows where it is answered
abbrev pub read_on : Device → Device → Operation → (Device → Tried) → Tried
read_on origin device op next = if answers device op then next (met device op) else refuse Io origin (met device op)

abbrev pub write_on : Device → Device → Operation → List ℕ → (Device → Tried) → Tried
write_on origin device op bytes next =
    if answers device op then next (written_by device op bytes) else refuse Io origin (written_by device op bytes)

abbrev pub flush_on : Device → (Device → Tried) → Device → Tried
flush_on origin next device = read_on origin device Flushes next

-- the origin is flushed, and then the store
abbrev pub flush_both : Device → Device → (Device → Device → Tried) → Tried
flush_both origin device next =
    if answers origin Flushes then flush_on (met origin Flushes) (next (met origin Flushes)) device
    else refuse Io (met origin Flushes) device

abbrev pub done : ℕ → Device → Device → Tried
done chunk origin device = record { origin = origin; device = device; outcome = Ok chunk }

-- so many areas are read, from area a on; a store that lacks one is damaged
abbrev pub read_areas : ℕ → ℕ → ℕ → Device → (Device → Tried) → Device → Tried
read_areas chunk a zero origin next device = next device
read_areas chunk a (suc n) origin next device =
    if nat_lt (length device.bytes) (512 * (chunk * (area_place chunk a + 1))) then refuse Damaged origin device
    else read_on origin device (Reads (chunk * area_place chunk a) chunk) (read_areas chunk (a + 1) n origin next)

-- the area of the first empty slot, and whether it has a byte other than 0 after that slot
abbrev pub last_area : ℕ → List ℕ → ℕ
last_area chunk store = length (pairs_of chunk store) / (32 * chunk)

abbrev pub has_tail : ℕ → List ℕ → Bool
has_tail chunk store =
    not (list_all (λ b. b == 0) (drop (16 * (length (pairs_of chunk store) % (32 * chunk) + 1)) (chunk_at chunk store (area_place chunk (last_area chunk store)))))

-- a fresh store: after the flushes area 0 is zeroed, and then the header is written, and the store is flushed after each
abbrev pub write_header : ℕ → Device → Device → Tried
write_header chunk origin device =
    write_on origin device (Writes 0 chunk) (with_part device.bytes 0 (header_bytes (512 * chunk) true chunk)) (flush_on origin (done chunk origin))

abbrev pub write_fresh : ℕ → Device → Device → Tried
write_fresh chunk origin device =
    write_on origin device (Writes (chunk * area_place chunk 0) chunk) (zeroed chunk device.bytes 0) (flush_on origin (write_header chunk origin))

abbrev pub make : ℕ → Device → Device → Tried
make chunk origin device =
    if is_too_small chunk device.bytes then refuse StoreTooSmall origin device else flush_both origin device (write_fresh chunk)

-- a written store whose areas were read: after the flushes the tail is cleared, if it has one, and the store is flushed again
abbrev pub write_tail : ℕ → Device → Device → Tried
write_tail chunk origin device =
    if has_tail chunk device.bytes
    then write_on origin device (Writes (chunk * area_place chunk (last_area chunk device.bytes)) chunk) (trimmed chunk device.bytes) (flush_on origin (done chunk origin))
    else done chunk origin device

abbrev pub clear : ℕ → Device → Device → Tried
clear chunk origin device =
    if not (is_loadable chunk (sectors_of origin) (sectors_of device) (pairs_of chunk device.bytes)) then refuse Damaged origin device
    else flush_both origin device (write_tail chunk)

-- a written store: the areas are read up to the one of the first empty slot
abbrev pub load : ℕ → Device → Device → Tried
load chunk origin device =
    if is_too_small chunk device.bytes then refuse StoreTooSmall origin device
    else read_areas chunk 0 (last_area chunk device.bytes + 1) origin (clear chunk origin) device

abbrev pub load_as : ℕ → Result Found Refusal → Device → Device → Tried
load_as chunk (Err refusal) origin device = refuse refusal origin device
load_as chunk (Ok Fresh) origin device = make chunk origin device
load_as chunk (Ok (Header own)) origin device = load own origin device

-- a store, for this origin and by a table line with this chunk size: its first sector is read
unfoldable pub open_store : ℕ → Device → Device → Tried
open_store chunk origin device =
    if sectors_of device == 0 then refuse StoreTooSmall origin device
    else read_on origin device (Reads 0 1) (load_as chunk (found_in (sector_at device.bytes 0)) origin)

-- a store that nothing uses: its device, and whether it is stale
pub record Store : Type 0 where
  pub device : Device
  pub stale : Bool

-- what an attach leaves: the volume, and why it was refused, with the store that is given back
pub record Attached : Type 0 where
  pub volume : Volume
  pub refused : Option Refusal
  pub back : Option Store

abbrev pub refused_attach : Refusal → Store → Volume → Attached
refused_attach refusal store v = record { volume = v; refused = Some refusal; back = Some store }

-- the volume with one snapshot more, under this number, which may overflow or not
abbrev pub taken_by : ℕ → Overflowing → Device → Result ℕ Refusal → Volume → Attached
taken_by number overflow device (Err refusal) v = refused_attach refusal (record { device = device; stale = false }) v
taken_by number overflow device (Ok chunk) v = record {
  volume = record { origin = v.origin; snaps = v.snaps ++ (record { number = number; chunk = chunk; live = true; overflow = overflow; stale = false; store = device }) ∷ [] };
  refused = None;
  back = None;
}

-- the volume over the origin that was tried, which may be flushed though the attach is refused
abbrev pub with_tried : ℕ → Overflowing → Tried → Volume → Attached
with_tried number overflow tried v = taken_by number overflow tried.device tried.outcome (record { origin = tried.origin; snaps = v.snaps })

-- An attach of a store, under a number and by a table line with this chunk size, that says whether it may overflow. A volume
-- has eight snapshots at most, and numbers have 32 bits.
unfoldable pub attached : ℕ → ℕ → Overflowing → Store → Volume → Attached
attached number chunk overflow store v =
    if store.stale then refused_attach Stale store v
    else (if nat_lt (length v.snaps) 8 && nat_lt number 4_294_967_296 then (if is_chunk chunk then with_tried number overflow (open_store chunk v.origin store.device) v else refused_attach BadChunk store v)
    else refused_attach TooMany store v)

-- a detach of the snapshot of a number, the first that has it: its store, with its stale mark
abbrev pub detached : ℕ → List Snap → List Snap
detached number [] = []
detached number (s ∷ snaps) = if s.number == number then snaps else s ∷ detached number snaps

abbrev pub given_back : ℕ → List Snap → Option Store
given_back number [] = None
given_back number (s ∷ snaps) = if s.number == number then Some (record { device = s.store; stale = s.stale }) else given_back number snaps

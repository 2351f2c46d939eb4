-- What is tried of a store leaves the bytes of the origin, which at most is flushed.
use Rattle.std.proofs.Common.{◌≡◌, ℕ, zero, suc, ◌+◌, ◌*◌, Bool, true, false, List}
use Rattle.std.specs.Prelude.{not, if◌then◌else◌, Result, Ok, Err}
use Rattle.sector.specs.Bytes.{with_part, sector_at}
use Rattle.sector.specs.declared.refusal.Refusal.{Refusal}
use Rattle.device.specs.declared.operation.Operation.{Operation}
use Rattle.device.specs.declared.operation.Operation.TheVariants.{Reads, Writes, Flushes}
use Rattle.cow_format.specs.Places.{area_place}
use Rattle.cow_format.specs.Pairs.{pairs_of}
use Rattle.whole_commands.specs.Saves.{zeroed}
use Rattle.whole_commands.specs.Loads.{trimmed, is_loadable, is_too_small}
use Rattle.cow_header.specs.HeaderText.{header_bytes, found_in}
use Rattle.cow_header.specs.declared.found.Found.{Found}
use Rattle.cow_header.specs.declared.found.Found.TheVariants.{Fresh, Header}
use Rattle.whole_commands.specs.Devices.{Device, sectors_of, answers, met, written_by}
use Rattle.whole_commands.specs.Attaching.{Tried, read_on, write_on, flush_on, flush_both, done, read_areas, last_area, has_tail, write_header, write_fresh, make, write_tail, clear, load, load_as, open_store}

-- what was tried is over an origin with these bytes
pub record IsOver (disk : List ℕ) (tried : Tried) : Type 0 where
  pub same : tried.origin.bytes ≡ disk

module _ (disk : List ℕ) where
  abbrev KeepsOver : (Device → Tried) → Type 0
  KeepsOver next = (device : Device) → IsOver disk (next device)

  either : (b : Bool) (x y : Tried) → IsOver disk x → IsOver disk y → IsOver disk (if b then x else y)
  either true x y hx hy = hx
  either false x y hx hy = hy

  stays : (origin device : Device) (outcome : Result ℕ Refusal) → origin.bytes ≡ disk → IsOver disk (record { origin = origin; device = device; outcome = outcome })
  stays origin device outcome h = record { same = h }

  read_over : (origin device : Device) (op : Operation) (next : Device → Tried) → origin.bytes ≡ disk → KeepsOver next → IsOver disk (read_on origin device op next)
  read_over origin device op next h keeps = either (answers device op) _ _ (keeps (met device op)) (stays origin (met device op) _ h)

  write_over : (origin device : Device) (op : Operation) (bytes : List ℕ) (next : Device → Tried) → origin.bytes ≡ disk → KeepsOver next → IsOver disk (write_on origin device op bytes next)
  write_over origin device op bytes next h keeps = either (answers device op) _ _ (keeps (written_by device op bytes)) (stays origin (written_by device op bytes) _ h)

  both_over : (origin device : Device) (next : Device → Device → Tried) → origin.bytes ≡ disk → ((o : Device) → o.bytes ≡ disk → KeepsOver (next o)) → IsOver disk (flush_both origin device next)
  both_over origin device next h keeps =
      either (answers origin Flushes) _ _ (read_over (met origin Flushes) device Flushes (next (met origin Flushes)) h (keeps (met origin Flushes) h)) (stays (met origin Flushes) device _ h)

  module _ (chunk : ℕ) where
    done_over : (origin : Device) → origin.bytes ≡ disk → KeepsOver (done chunk origin)
    done_over origin h device = stays origin device (Ok chunk) h

    flushed_over : (origin : Device) → origin.bytes ≡ disk → KeepsOver (flush_on origin (done chunk origin))
    flushed_over origin h device = read_over origin device Flushes (done chunk origin) h (done_over origin h)

    header_over : (origin : Device) → origin.bytes ≡ disk → KeepsOver (write_header chunk origin)
    header_over origin h device = write_over origin device (Writes 0 chunk) (with_part device.bytes 0 (header_bytes (512 * chunk) true chunk)) (flush_on origin (done chunk origin)) h (flushed_over origin h)

    fresh_over : (origin : Device) → origin.bytes ≡ disk → KeepsOver (write_fresh chunk origin)
    fresh_over origin h device =
        write_over origin device (Writes (chunk * area_place chunk 0) chunk) (zeroed chunk device.bytes 0) (flush_on origin (write_header chunk origin)) h
        (λ d. read_over origin d Flushes (write_header chunk origin) h (header_over origin h))

    tail_over : (origin : Device) → origin.bytes ≡ disk → KeepsOver (write_tail chunk origin)
    tail_over origin h device =
        either (has_tail chunk device.bytes) _ _
        (write_over origin device (Writes (chunk * area_place chunk (last_area chunk device.bytes)) chunk) (trimmed chunk device.bytes) (flush_on origin (done chunk origin)) h (flushed_over origin h))
        (done_over origin h device)

    clear_over : (origin : Device) → origin.bytes ≡ disk → KeepsOver (clear chunk origin)
    clear_over origin h device =
        either (not (is_loadable chunk (sectors_of origin) (sectors_of device) (pairs_of chunk device.bytes))) _ _ (stays origin device _ h) (both_over origin device (write_tail chunk) h tail_over)

    areas_over : (a n : ℕ) (origin : Device) (next : Device → Tried) → origin.bytes ≡ disk → KeepsOver next → KeepsOver (read_areas chunk a n origin next)
    areas_over a zero origin next h keeps device = keeps device
    areas_over a (suc n) origin next h keeps device =
        either _ _ _ (stays origin device _ h) (read_over origin device _ (read_areas chunk (a + 1) n origin next) h (areas_over (a + 1) n origin next h keeps))

    make_over : (origin : Device) → origin.bytes ≡ disk → KeepsOver (make chunk origin)
    make_over origin h device = either (is_too_small chunk device.bytes) _ _ (stays origin device _ h) (both_over origin device (write_fresh chunk) h fresh_over)

    load_over : (origin : Device) → origin.bytes ≡ disk → KeepsOver (load chunk origin)
    load_over origin h device = either (is_too_small chunk device.bytes) _ _ (stays origin device _ h) (areas_over 0 _ origin (clear chunk origin) h (clear_over origin h) device)

  load_as_over : (chunk : ℕ) (is : Result Found Refusal) (origin : Device) → origin.bytes ≡ disk → KeepsOver (load_as chunk is origin)
  load_as_over chunk (Err refusal) origin h device = stays origin device _ h
  load_as_over chunk (Ok Fresh) origin h device = make_over chunk origin h device
  load_as_over chunk (Ok (Header own)) origin h device = load_over own origin h device

  pub open_over : (chunk : ℕ) (origin : Device) → origin.bytes ≡ disk → (device : Device) → IsOver disk (open_store chunk origin device)
  unfolding open_store
  open_over chunk origin h device = either _ _ _ (stays origin device _ h) (read_over origin device (Reads 0 1) _ h (load_as_over chunk (found_in (sector_at device.bytes 0)) origin h))

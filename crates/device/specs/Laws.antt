-- Laws of a disk: it has whole sectors, and there is one like it with any bytes.
use Rattle.std.specs.Prelude.{◌≡◌, ℕ, ◌+◌, ◌*◌, ◌^◌, ◌<◌, ◌≤◌, List, [], length, max, refl}
use Rattle.std.proofs.Common.{◌∙◌, ap, arith, rules}
use Rattle.std.proofs.lemmas.List.{places, same_lists}
use Rattle.sector.specs.Bytes.{with_sectors}
use Rattle.sector.proofs.Sectors.{length-with_sectors}
use Rattle.device.specs.Bare.{HasLike}
use Rattle.device.specs.Disk.{contents_are, disk_contents, disk_done, disk_durable, disk_size}
use Rattle.device.specs.Sectors.{now_in}
use Rattle.device.specs.declared.mem_disk.MemDisk.{MemDisk}

-- the write that waits stands inside
pub late_fits : (d : MemDisk) → 512 * d.late.range.first + length d.late.bytes.items ≤ length (now_in d.sectors)
late_fits d = omega (arith, d.inside, d.late.whole, d.sectors.whole)

-- so there are whole sectors of bytes
pub disk_whole : (d : MemDisk) → length (disk_contents d) ≡ 512 * disk_size d
disk_whole d = ap length (contents_are d) ∙ length-with_sectors (now_in d.sectors) d.late.range.first d.late.bytes.items (late_fits d) ∙ d.sectors.whole

-- and a disk in memory is no larger than any device
pub disk_small : (d : MemDisk) → disk_size d ≤ 2_147_483_648
disk_small d = omega (arith, d.sectors.small)

-- all of it written over, where that waits
over_all : (old bytes : List ℕ) → length bytes ≡ length old → with_sectors old 0 bytes ≡ bytes
over_all old bytes long = same_lists _ _ (search (rules, places)) (λ k d h. grind (arith, places))

pub disk_like : (d : MemDisk) (bytes : List ℕ) (count : ℕ) → length bytes ≡ 512 * disk_size d → count < 2 ^ 64 → HasLike disk_size disk_contents disk_durable (λ x. []) (λ x. 0) disk_done d bytes count
disk_like d bytes count whole few =
    let v = d.late.bytes in
    let p = d.sectors.present in
    let room = record v { len = length bytes; cap = max v.cap p.cap; items = bytes; ok = (refl, omega (arith, d.sectors.whole, p.ok.0, p.ok.1)); small = omega (arith, v.small, p.small) } in
    let like = record d { late = record d.late { range = record d.late.range { first = 0; count = d.sectors.count; size = d.sectors.count; inside = omega arith }; bytes = room; whole = whole; room = omega (arith, d.late.room) }; done = count; inside = omega arith } in
    record { like = like; bytes_are = contents_are like ∙ over_all (now_in d.sectors) bytes (omega (arith, whole, d.sectors.whole)); flushed = refl; bare = refl; sized = refl; faulty = refl; counted = refl }

-- What contracts see of a disk in memory.
use Rattle.std.specs.Prelude.{◌≡◌, ◌⊎◌, ℕ, List, refl}
use Rattle.sector.specs.Bytes.{sector_at, with_sectors}
use Rattle.device.specs.Sectors.{now_in, flushed_in}
use Rattle.device.specs.declared.mem_disk.MemDisk.{MemDisk}

-- how many sectors it has
abbrev pub disk_size : MemDisk → ℕ
disk_size d = d.sectors.count

-- its bytes now: those of its sectors, with the write that waits for a flush
pub disk_contents : MemDisk → List ℕ
disk_contents d = with_sectors (now_in d.sectors) d.late.range.first d.late.bytes.items

pub contents_are : (d : MemDisk) → disk_contents d ≡ with_sectors (now_in d.sectors) d.late.range.first d.late.bytes.items
unfolding disk_contents
contents_are d = refl

-- its bytes at the last flush, which last through a loss of power
abbrev pub disk_durable : MemDisk → List ℕ
disk_durable d = flushed_in d.sectors

-- how many operations it has done, modulo 2 ^ 64
abbrev pub disk_done : MemDisk → ℕ
disk_done d = d.done

-- what a stop may leave in a sector: what is there, or what was there at the last flush
abbrev pub disk_may_hold : MemDisk → ℕ → List ℕ → Type 0
disk_may_hold d s v = (v ≡ sector_at (disk_contents d) s) ⊎ (v ≡ sector_at (disk_durable d) s)

-- The disk at the bottom of a stack.
use Rattle.std.specs.Prelude.{◌≡◌, ℕ, ◌+◌, ◌≤◌, List, Option, Some, None}
use Rattle.sector.specs.Bytes.{with_sectors}
use Rattle.device.specs.declared.mem_disk.MemDisk.{MemDisk}
use Rattle.device.specs.Disk.{disk_size, disk_contents, disk_durable, disk_done}
use Rattle.layers.specs.declared.stack.Stack.{Stack, Disk, Flakey', Dust', Error}

-- the disk, if there is one
abbrev pub disk_of : Stack → Option MemDisk
disk_of (Disk d) = Some d
disk_of (Flakey' f p below) = disk_of below
disk_of (Dust' d p below) = disk_of below
disk_of (Error e) = None

-- the stack over another disk, where there is one
abbrev pub with_disk : Stack → Option MemDisk → Stack
with_disk (Disk d) None = Disk d
with_disk (Disk d) (Some e) = Disk e
with_disk (Flakey' f p below) disk = Flakey' f p (with_disk below disk)
with_disk (Dust' d p below) disk = Dust' d p (with_disk below disk)
with_disk (Error e) disk = Error e

-- there is a disk, and it has these sectors
abbrev pub HasSectors : Option MemDisk → ℕ → ℕ → Type 0
HasSectors None first count = ⊥
HasSectors (Some d) first count = first + count ≤ disk_size d

-- a disk that went back to its flushed values, if there is one
abbrev pub IsLost : Option MemDisk → Option MemDisk → Type 0
IsLost None None = Unit {0}
IsLost (Some a) (Some b) = (disk_contents b ≡ disk_durable a) × (disk_durable b ≡ disk_durable a) × (disk_size b ≡ disk_size a) × (disk_done b ≡ disk_done a)
IsLost None (Some b) = ⊥
IsLost (Some a) None = ⊥

-- a disk with these bytes from a sector on, now and after a loss
abbrev pub IsLoaded : ℕ → List ℕ → Option MemDisk → Option MemDisk → Type 0
IsLoaded first bytes (Some a) (Some b) = (disk_contents b ≡ with_sectors (disk_contents a) first bytes) × (disk_durable b ≡ with_sectors (disk_durable a) first bytes) × (disk_size b ≡ disk_size a) × (disk_done b ≡ disk_done a)
IsLoaded first bytes None b = ⊥
IsLoaded first bytes (Some a) None = ⊥

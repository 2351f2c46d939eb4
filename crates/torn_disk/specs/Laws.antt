-- Laws: what a fuse shows are whole sectors, and not too many.
use Rattle.std.specs.Prelude.{◌≡◌, ℕ, ◌*◌, ◌≤◌, List, length, Option, Some, None}
use Rattle.device.specs.declared.mem_disk.MemDisk.{MemDisk}
use Rattle.device.specs.Disk.{disk_size}
use Rattle.device.specs.Laws.{disk_small, disk_whole}
use Rattle.torn_disk.specs.declared.torn_disk.TornDisk.{TornDisk}
use Rattle.torn_disk.specs.TornDisk.{shown_by, torn_disk_contents, torn_disk_size}

shown_whole : (left : Option ℕ) (d : MemDisk) (before : List ℕ) → length before ≡ 512 * disk_size d → length (shown_by left d before) ≡ 512 * disk_size d
shown_whole None d before same = same
shown_whole (Some k) d before same = disk_whole d

pub torn_disk_whole : (f : TornDisk) → length (torn_disk_contents f) ≡ 512 * torn_disk_size f
torn_disk_whole f = shown_whole f.left f.disk f.before.items f.same_length

pub torn_disk_small : (f : TornDisk) → torn_disk_size f ≤ 2_147_483_648
torn_disk_small f = disk_small f.disk

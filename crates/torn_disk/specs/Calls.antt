-- What a call leaves of a fuse and of its disk, in phrases over what was there before and after. This project's own.
use Rattle.std.specs.Prelude.{◌≡◌, ℕ, IfSome, List, Result, Some, if◌then◌else◌, is_ok}
use Rattle.sector.specs.Bytes.{next_count}
use Rattle.device.specs.declared.mem_disk.MemDisk.{MemDisk}
use Rattle.device.specs.Disk.{disk_contents, disk_durable}
use Rattle.device.specs.Layers.{counted_after, is_loud}
use Rattle.torn_disk.specs.declared.torn_disk.TornDisk.{TornDisk}
use Rattle.torn_disk.specs.TornDisk.{changes_left, kept_aside, new_sectors, torn_disk_contents, torn_disk_durable, torn_disk_layers, torn_disk_may_hold, torn_disk_size}

-- it has as many sectors, shows the same bytes, and the same bytes after a loss of its cache
abbrev pub KeepsSize : TornDisk → TornDisk → Type 0
KeepsSize old new = torn_disk_size new ≡ torn_disk_size old

abbrev pub KeepsContents : TornDisk → TornDisk → Type 0
KeepsContents old new = torn_disk_contents new ≡ torn_disk_contents old

abbrev pub KeepsDurable : TornDisk → TornDisk → Type 0
KeepsDurable old new = torn_disk_durable new ≡ torn_disk_durable old

-- which sectors of a torn write are new stays, and so does a disk that is kept aside
abbrev pub KeepsNew : TornDisk → TornDisk → Type 0
KeepsNew old new = new_sectors new ≡ new_sectors old

abbrev pub KeepsAside : TornDisk → TornDisk → Type 0
KeepsAside old new = IfSome (kept_aside old) (λ d. kept_aside new ≡ Some d)

-- its layer does all that it answers where it did so before, and only there
abbrev pub StaysAsLoud : TornDisk → TornDisk → Type 0
StaysAsLoud old new = is_loud (torn_disk_layers new) ≡ is_loud (torn_disk_layers old)

-- it may hold nothing but what it might before
abbrev pub HoldsNoMore : TornDisk → TornDisk → Type 0
HoldsNoMore old new = (s : ℕ) (v : List ℕ) → torn_disk_may_hold new s v → torn_disk_may_hold old s v

-- a fault is counted; one is where the call fails, and only there; and of the changes that pass one is taken away
abbrev pub CountsOne : TornDisk → TornDisk → Type 0
CountsOne old new = new.faults ≡ next_count old.faults

abbrev pub CountsFault : {A E : Type 0} → Result A E → TornDisk → TornDisk → Type 0
CountsFault result old new = new.faults ≡ (if is_ok result then old.faults else next_count old.faults)

abbrev pub LeavesFewer : TornDisk → TornDisk → Type 0
LeavesFewer old new = changes_left new ≡ counted_after (changes_left old)

-- the bytes of the disk are those that it shows from then on
abbrev pub ShowsFormer : TornDisk → TornDisk → Type 0
ShowsFormer old new = new.before.items ≡ disk_contents old.disk

-- the disk has the same bytes after a loss of its cache
abbrev pub DiskKeepsDurable : MemDisk → MemDisk → Type 0
DiskKeepsDurable old new = disk_durable new ≡ disk_durable old

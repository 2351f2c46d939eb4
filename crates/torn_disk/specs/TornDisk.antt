-- What contracts see of a fuse.
use Rattle.std.specs.Prelude.{◌≡◌, ◌⊎◌, ℕ, Bool, List, [], ◌∷◌, Option, Some, None}
use Rattle.sector.specs.Bytes.{sector_at}
use Rattle.device.specs.declared.mem_disk.MemDisk.{MemDisk}
use Rattle.device.specs.Disk.{disk_size, disk_contents, disk_durable}
use Rattle.device.specs.Layers.{Layer, Tearing}
use Rattle.torn_disk.specs.declared.torn_disk.TornDisk.{TornDisk}

-- how many writes and flushes pass before it is blown; None: it is blown
abbrev pub changes_left : TornDisk → Option ℕ
changes_left f = f.left

-- which sectors of a torn write are new
abbrev pub new_sectors : TornDisk → List Bool
new_sectors f = f.reaching.items

-- the disk that is kept aside, by the writes and flushes that pass: what a stop within the next one left
abbrev pub kept_by : Option ℕ → MemDisk → Option MemDisk
kept_by None disk = Some disk
kept_by (Some k) disk = None

abbrev pub kept_aside : TornDisk → Option MemDisk
kept_aside f = kept_by f.left f.disk

-- the bytes that it shows, by the writes and flushes that pass: those of the disk, and once it is blown those from before that
abbrev pub shown_by : Option ℕ → MemDisk → List ℕ → List ℕ
shown_by None disk before = before
shown_by (Some k) disk before = disk_contents disk

abbrev pub torn_disk_contents : TornDisk → List ℕ
torn_disk_contents f = shown_by f.left f.disk f.before.items

abbrev pub torn_disk_size : TornDisk → ℕ
torn_disk_size f = disk_size f.disk

abbrev pub torn_disk_durable : TornDisk → List ℕ
torn_disk_durable f = disk_durable f.disk

-- what a stop may leave in a sector: what it shows there, or what was there at the last flush
abbrev pub torn_disk_may_hold : TornDisk → ℕ → List ℕ → Type 0
torn_disk_may_hold f s v = (v ≡ sector_at (torn_disk_contents f) s) ⊎ (v ≡ sector_at (torn_disk_durable f) s)

-- it is one layer over a disk
abbrev pub torn_disk_layers : TornDisk → List Layer
torn_disk_layers f = Tearing f.left ∷ []

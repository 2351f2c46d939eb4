-- What contracts see of the sectors of a disk.
use Rattle.std.specs.Prelude.{ℕ, List}
use Rattle.device.specs.Marks.{flushed_from}
use Rattle.device.specs.Listed.{listed}
use Rattle.device.specs.declared.disk_sectors.DiskSectors.{DiskSectors}

-- their bytes now
abbrev pub now_in : DiskSectors → List ℕ
now_in d = d.present.items

-- their bytes at the last flush: of each sector what its mark says
abbrev pub flushed_in : DiskSectors → List ℕ
flushed_in d = flushed_from d.present.items (listed d.undo.kept.items) d.undo.aside.items 0 d.undo.marks.items

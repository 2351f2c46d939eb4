-- What calls change of a disk in memory and of its parts, in phrases over what was there before and after. This project's own.
use Rattle.std.specs.Prelude.{◌≡◌, ◌≢◌, ◌⊎◌, ℕ, ◌+◌, ◌<◌, ◌≤◌, List, length, true, false, vec_capacity}
use Rattle.std.specs.Global.{Vec}
use Rattle.sector.specs.Bytes.{sector_at, with_sectors}
use Rattle.sector.specs.declared.range.Range.{Range}
use Rattle.device.specs.Disk.{disk_contents, disk_durable}
use Rattle.device.specs.Listed.{listed}
use Rattle.device.specs.Marks.{flushed_at, is_settled, mark_at}
use Rattle.device.specs.Sectors.{flushed_in, now_in}
use Rattle.device.specs.declared.disk_sectors.DiskSectors.{DiskSectors}
use Rattle.device.specs.declared.mark.Mark.{Mark}
use Rattle.device.specs.declared.mark.Mark.TheVariants.{Fresh, Kept, Same, Zero}
use Rattle.device.specs.declared.mem_disk.MemDisk.{MemDisk}
use Rattle.device.specs.declared.undo.Undo.{Undo}

-- a disk has the same bytes, and the same after a loss of its cache
abbrev pub KeepsContents : MemDisk → MemDisk → Type 0
KeepsContents old new = disk_contents new ≡ disk_contents old

abbrev pub KeepsDurable : MemDisk → MemDisk → Type 0
KeepsDurable old new = disk_durable new ≡ disk_durable old

-- its sectors have the same bytes at the last flush; or these bytes now
abbrev pub KeepsFlushed : DiskSectors → DiskSectors → Type 0
KeepsFlushed old new = flushed_in new ≡ flushed_in old

abbrev pub IsWritten : Range → List ℕ → DiskSectors → DiskSectors → Type 0
IsWritten range bytes old new = now_in new ≡ with_sectors (now_in old) range.first bytes

-- as many sectors are marked
abbrev pub KeepsLen : {A : Type 0} → Vec A → Vec A → Type 0
KeepsLen old new = length new.items ≡ length old.items

abbrev pub MarksAsMany : Undo → Undo → Type 0
MarksAsMany old new = length new.marks.items ≡ length old.marks.items

-- no mark changes but those of so many sectors from one on; or none but to that of a sector that is as at the last flush
abbrev pub ChangesIn : ℕ → ℕ → Vec Mark → Vec Mark → Type 0
ChangesIn first count old new = (t : ℕ) → (t < first) ⊎ (first + count ≤ t) → mark_at new.items t ≡ mark_at old.items t

abbrev pub MarksOnly : ℕ → ℕ → Undo → Undo → Type 0
MarksOnly first count old new = (t : ℕ) → (t < first) ⊎ (first + count ≤ t) → mark_at new.marks.items t ≡ mark_at old.marks.items t

abbrev pub MakesSame : Vec Mark → Vec Mark → Type 0
MakesSame old new = (t : ℕ) → (mark_at new.items t ≡ Same) ⊎ (mark_at new.items t ≡ mark_at old.items t)

-- those of so many sectors say that a value is kept aside; or that the value now is not that of the last flush; or all say that it is
abbrev pub AreKeptIn : ℕ → ℕ → Undo → Type 0
AreKeptIn first count undo = (t : ℕ) → first ≤ t → t < first + count → mark_at undo.marks.items t ≡ Kept

abbrev pub AreUnsettledIn : ℕ → ℕ → Undo → Type 0
AreUnsettledIn first count undo = (t : ℕ) → first ≤ t → t < first + count → is_settled (mark_at undo.marks.items t) ≡ false

abbrev pub AreSettled : Undo → Type 0
AreSettled undo = (t : ℕ) → is_settled (mark_at undo.marks.items t) ≡ true

-- no sector is marked as never written that was not so before; and none of so many sectors is
abbrev pub MakesNoneFresh : Undo → Undo → Type 0
MakesNoneFresh old new = (t : ℕ) → mark_at new.marks.items t ≡ Fresh → mark_at old.marks.items t ≡ Fresh

abbrev pub FreshBeside : ℕ → ℕ → Undo → Undo → Type 0
FreshBeside first count old new = (t : ℕ) → mark_at new.marks.items t ≡ Fresh → (mark_at old.marks.items t ≡ Fresh) × ((t < first) ⊎ (first + count ≤ t))

-- each sector of a disk with these bytes has the same value at the last flush
abbrev pub UndoesAlike : List ℕ → Undo → Undo → Type 0
UndoesAlike now old new = (t : ℕ) → flushed_at now (listed new.kept.items) new.aside.items new.marks.items t ≡ flushed_at now (listed old.kept.items) old.aside.items old.marks.items t

-- no sector changes but those whose value is kept aside; or those that were zero at the last flush
abbrev pub ChangesOnlyKept : List Mark → List ℕ → List ℕ → Type 0
ChangesOnlyKept marks old new = (t : ℕ) → mark_at marks t ≢ Kept → sector_at new t ≡ sector_at old t

abbrev pub ChangesOnlyZero : List Mark → List ℕ → List ℕ → Type 0
ChangesOnlyZero marks old new = (t : ℕ) → mark_at marks t ≢ Zero → sector_at new t ≡ sector_at old t

-- a list has room in memory for at least as many
abbrev pub GainsRoom : {A : Type 0} → Vec A → Vec A → Type 0
GainsRoom old new = vec_capacity old ≤ vec_capacity new

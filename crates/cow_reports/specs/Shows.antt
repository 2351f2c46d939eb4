-- What is printed of a store: lines of a key and a value. They are this project's own, but the status, which is as the
-- kernel's admin-guide page on snapshots has it.
use Rattle.std.specs.Prelude.{ℕ, ◌*◌, ◌%◌, ◌==◌, List, [], ◌++◌, codes, decimal, length, Option, Some, None, if◌then◌else◌}
use Rattle.cow_image.specs.Usage.{allocated_by, metadata_by}
use Rattle.cow_image.specs.declared.map.CowMap.{CowMap}
use Rattle.cow_image.specs.declared.found.Told.{Told}
use Rattle.cow_image.specs.declared.found.Told.TheVariants.{Fresh, Refused, Written}
use Rattle.cow_reports.specs.declared.showing.Numbers.{Numbers}
use Rattle.cow_reports.specs.Reasons.{reason_text, refused_name}

-- a line of a key and a number
abbrev pub line_text : List ℕ → ℕ → List ℕ
line_text key number = key ++ codes " " ++ decimal number ++ codes "\n"

-- the four numbers of a header
abbrev pub numbers_text : Numbers → List ℕ
numbers_text n = line_text (codes "magic") n.magic ++ line_text (codes "valid") n.valid ++ line_text (codes "version") n.version ++ line_text (codes "chunk") n.chunk

-- the slots of an area by the numbers of a header, or 1 where they say nothing of use
abbrev pub slots_by : Option Numbers → ℕ
slots_by None = 1
slots_by (Some n) = if n.chunk == 0 then 1 else 32 * n.chunk

-- what a store holds, or why it is refused, where its areas have so many slots
abbrev pub told_text : ℕ → Told → List ℕ
told_text slots Fresh = codes "fresh\n"
told_text slots (Refused reason) = codes "refused " ++ refused_name reason ++ codes "\nreason " ++ reason_text slots reason ++ codes "\n"
told_text slots (Written map) = line_text (codes "pairs") (length map.pairs.items) ++ line_text (codes "area") map.current ++ line_text (codes "slot") (length map.pairs.items % slots)

-- the numbers of a status line
abbrev pub status_text : ℕ → ℕ → ℕ → List ℕ
status_text allocated total metadata = codes "status " ++ decimal allocated ++ codes "/" ++ decimal total ++ codes " " ++ decimal metadata ++ codes "\n"

-- the status line of a map
abbrev pub usage_text : CowMap → List ℕ
usage_text map = status_text (allocated_by map.chunk map.pairs.items) map.size (metadata_by map.chunk map.current)

-- the status line, where there is one
abbrev pub status_of : Told → List ℕ
status_of (Written map) = usage_text map
status_of told = []

-- the header's numbers, where there is a header
abbrev pub header_of : Option Numbers → List ℕ
header_of None = []
header_of (Some n) = numbers_text n

-- All that is shown of a store of so many sectors.
abbrev pub show_text : ℕ → Option Numbers → Told → List ℕ
show_text sectors numbers told = line_text (codes "sectors") sectors ++ (header_of numbers ++ (told_text (slots_by numbers) told ++ status_of told))

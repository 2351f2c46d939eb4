-- What `show --human` prints: sizes in units of 1024 (IEC 80000-13), to a tenth, rounded down.
use Rattle.std.specs.Prelude.{ℕ, ◌*◌, ◌/◌, ◌%◌, List, ◌++◌, codes, decimal, length, nat_lt, if◌then◌else◌}
use Rattle.cow_image.specs.Usage.{allocated_by}
use Rattle.cow_image.specs.declared.map.CowMap.{CowMap}
use Rattle.cow_image.specs.declared.found.Told.{Told}
use Rattle.cow_image.specs.declared.found.Told.TheVariants.{Fresh, Refused, Written}
use Rattle.cow_reports.specs.declared.looking.Seen.{Seen}
use Rattle.cow_reports.specs.Shows.{line_text, told_text, slots_by}

-- so many units, to a tenth
abbrev pub tenths : ℕ → ℕ → List ℕ
tenths n unit = decimal (n / unit) ++ (codes "." ++ decimal (n % unit * 10 / unit))

-- so many sectors, in the largest unit of which there is one
abbrev pub size_text : ℕ → List ℕ
size_text sectors =
    if nat_lt sectors 2_048 then tenths sectors 2 ++ codes " KiB"
    else (if nat_lt sectors 2_097_152 then tenths sectors 2_048 ++ codes " MiB"
    else (if nat_lt sectors 2_147_483_648 then tenths sectors 2_097_152 ++ codes " GiB"
    else tenths sectors 2_147_483_648 ++ codes " TiB"))

-- a line of them behind a key
abbrev pub size_line : List ℕ → ℕ → List ℕ
size_line key sectors = key ++ (size_text sectors ++ codes "\n")

-- the part of all sectors that is in use, in percent
abbrev pub percent_text : ℕ → ℕ → List ℕ
percent_text used all = tenths (100 * used) all ++ codes " %\n"

-- of a written store: the size of its chunks, how many have copies, and how much of it is in use
abbrev pub used_text : ℕ → ℕ → List ℕ
used_text used all = codes "used " ++ (size_text used ++ (codes ", " ++ percent_text used all))

abbrev pub map_human : CowMap → List ℕ
map_human map =
    size_line (codes "chunk ") map.chunk
    ++ (line_text (codes "pairs") (length map.pairs.items)
    ++ used_text (allocated_by map.chunk map.pairs.items) map.size)

abbrev pub human_of : ℕ → Told → List ℕ
human_of slots (Written map) = map_human map
human_of slots Fresh = told_text slots Fresh
human_of slots (Refused reason) = told_text slots (Refused reason)

abbrev pub human_text : Seen → List ℕ
human_text seen = size_line (codes "size ") seen.sectors ++ human_of (slots_by seen.numbers) seen.told

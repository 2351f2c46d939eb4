-- What is printed as JSON of what is seen of a store: an object for each item, on a line of its own.
use Rattle.std.specs.Prelude.{ℕ, ◌*◌, List, [], ◌++◌, length, codes, Option, Some, None}
use Rattle.sector.specs.declared.pair.Pair.{Pair}
use Rattle.cow_image.specs.declared.fault.Fault.{Fault}
use Rattle.cow_image.specs.declared.found.Told.{Told}
use Rattle.cow_image.specs.declared.found.Told.TheVariants.{Fresh, Refused, Written}
use Rattle.cow_image.specs.declared.reading.Listed.{Listed}
use Rattle.cow_image.specs.declared.reading.Listed.TheVariants.{Ends, Lacks}
use Rattle.cow_salvage.specs.declared.span.Span.{Span}
use Rattle.cow_reports.specs.Items.{number_object, run_objects, slot_objects, listed_object, doubtful_objects, fault_objects, behind_object, unread_objects}
use Rattle.cow_reports.specs.Json.{json_text}
use Rattle.cow_reports.specs.Shows.{slots_by}
use Rattle.cow_reports.specs.declared.showing.Numbers.{Numbers}
use Rattle.cow_reports.specs.declared.looking.Seen.{Seen}
use Rattle.cow_reports.specs.declared.notes.Notes.{Notes}
use Rattle.cow_reports.specs.declared.notes.Behind.{Behind}

-- what `map` prints: the runs of the pairs, or the store's object where there are none
abbrev pub map_objects_of : ℕ → Option Numbers → Told → List ℕ
map_objects_of sectors numbers (Written map) = run_objects map.pairs.items
map_objects_of sectors numbers Fresh = json_text sectors numbers Fresh
map_objects_of sectors numbers (Refused reason) = json_text sectors numbers (Refused reason)

abbrev pub map_objects : Seen → List ℕ
map_objects seen = map_objects_of seen.sectors seen.numbers seen.told

-- the object of a store that is refused
abbrev pub refusal_object_of : ℕ → Option Numbers → Told → List ℕ
refusal_object_of sectors numbers Fresh = []
refusal_object_of sectors numbers (Refused reason) = json_text sectors numbers (Refused reason)
refusal_object_of sectors numbers (Written map) = []

abbrev pub refusal_object : Seen → List ℕ
refusal_object seen = refusal_object_of seen.sectors seen.numbers seen.told

-- what `map --raw` prints of slots, where a chunk has so many sectors
abbrev pub raw_objects : ℕ → List Pair → Listed → Seen → List ℕ
raw_objects chunk slots listed seen = slot_objects (32 * chunk) 0 slots ++ (listed_object listed ++ refusal_object seen)

-- the object of an area that is not there
abbrev pub lacks_object : Listed → List ℕ
lacks_object (Ends area) = []
lacks_object (Lacks area) = listed_object (Lacks area)

-- what `check` prints after the store's object, of a store whose pairs are refused
abbrev pub check_objects : Option Numbers → List Fault → Listed → List ℕ
check_objects numbers faults listed = fault_objects (codes "fault") (slots_by numbers) faults ++ lacks_object listed

-- the object of an area that a salvage lacks
abbrev pub lacks_object_of : Option ℕ → List ℕ
lacks_object_of None = []
lacks_object_of (Some area) = listed_object (Lacks area)

-- the object of the slots behind the first empty one
abbrev pub behind_object_of : ℕ → Option Behind → List ℕ
behind_object_of slots None = []
behind_object_of slots (Some behind) = behind_object slots behind.count behind.first

-- how many pairs are certain
abbrev pub count_object : List Pair → List ℕ
count_object certain = number_object (codes "salvaged") (length certain)

-- each pair that is doubtful, and each that is not kept
abbrev pub others_objects : ℕ → List Pair → List Fault → List ℕ
others_objects slots doubtful skipped = doubtful_objects doubtful ++ fault_objects (codes "skipped") slots skipped

-- how many pairs are certain, their runs, and each other one
abbrev pub kept_objects : ℕ → List Pair → List Pair → List Fault → List ℕ
kept_objects slots certain doubtful skipped = count_object certain ++ (run_objects certain ++ others_objects slots doubtful skipped)

-- what is noted of a store's slots
abbrev pub notes_objects : ℕ → Notes → List ℕ
notes_objects slots notes = lacks_object_of notes.lacks ++ behind_object_of slots notes.behind

-- each span of both images that could not be read, and the notes
abbrev pub unknown_objects : ℕ → List Span → List Span → Notes → List ℕ
unknown_objects slots origin cow notes = unread_objects (codes "ORIGIN") origin ++ (unread_objects (codes "COW") cow ++ notes_objects slots notes)

-- what is printed of a salvage
abbrev pub salvaged_objects : ℕ → List Pair → List Pair → List Fault → List Span → List Span → Notes → List ℕ
salvaged_objects slots certain doubtful skipped origin cow notes = kept_objects slots certain doubtful skipped ++ unknown_objects slots origin cow notes

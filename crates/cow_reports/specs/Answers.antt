-- What is printed of what is seen of a store, and the exit status.
use Rattle.std.specs.Prelude.{ℕ, ◌*◌, Bool, true, false, List, [], ◌++◌, Option}
use Rattle.sector.specs.declared.pair.Pair.{Pair}
use Rattle.cow_image.specs.declared.fault.Fault.{Fault}
use Rattle.cow_image.specs.declared.found.Told.{Told}
use Rattle.cow_image.specs.declared.found.Told.TheVariants.{Fresh, Refused, Written}
use Rattle.cow_image.specs.declared.reading.Listed.{Listed}
use Rattle.cow_image.specs.declared.reading.Listed.TheVariants.{Ends, Lacks}
use Rattle.cow_reports.specs.Json.{json_text}
use Rattle.cow_reports.specs.Lines.{runs_text, slots_text, listed_text}
use Rattle.cow_reports.specs.Reasons.{faults_text}
use Rattle.cow_reports.specs.Shows.{show_text, told_text, slots_by}
use Rattle.cow_reports.specs.declared.showing.Numbers.{Numbers}
use Rattle.cow_reports.specs.declared.looking.Seen.{Seen}

-- whether a store is good
abbrev pub is_good : Told → Bool
is_good Fresh = true
is_good (Refused reason) = false
is_good (Written map) = true

-- what `show` prints, in lines and as an object
abbrev pub shown_text : Seen → List ℕ
shown_text seen = show_text seen.sectors seen.numbers seen.told

abbrev pub object_text : Seen → List ℕ
object_text seen = json_text seen.sectors seen.numbers seen.told

-- what `map` prints: the runs of the pairs, or why there are none
abbrev pub map_of : Option Numbers → Told → List ℕ
map_of numbers (Written map) = runs_text map.pairs.items
map_of numbers Fresh = told_text (slots_by numbers) Fresh
map_of numbers (Refused reason) = told_text (slots_by numbers) (Refused reason)

abbrev pub map_text : Seen → List ℕ
map_text seen = map_of seen.numbers seen.told

-- why a store is refused, if it is
abbrev pub refusal_of : Option Numbers → Told → List ℕ
refusal_of numbers Fresh = []
refusal_of numbers (Refused reason) = told_text (slots_by numbers) (Refused reason)
refusal_of numbers (Written map) = []

abbrev pub refusal_text : Seen → List ℕ
refusal_text seen = refusal_of seen.numbers seen.told

-- what `map --raw` prints of slots, where a chunk has so many sectors
abbrev pub raw_text : ℕ → List Pair → Listed → Seen → List ℕ
raw_text chunk slots listed seen = slots_text (32 * chunk) 0 slots ++ (listed_text listed ++ refusal_text seen)

-- the line of an area that is not there
abbrev pub lacks_text : Listed → List ℕ
lacks_text (Ends area) = []
lacks_text (Lacks area) = listed_text (Lacks area)

-- what `check` prints after what `show` prints, of a store whose pairs are refused
abbrev pub check_text : Option Numbers → List Fault → Listed → List ℕ
check_text numbers faults listed = faults_text (slots_by numbers) faults ++ lacks_text listed

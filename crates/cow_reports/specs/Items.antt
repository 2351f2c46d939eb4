-- What is listed of a store as JSON: an object for each item, on a line of its own.
use Rattle.std.specs.Prelude.{ℕ, ◌+◌, ◌*◌, ◌/◌, ◌%◌, List, [], ◌∷◌, ◌++◌, codes, decimal, flat_map, if◌then◌else◌}
use Rattle.sector.specs.declared.pair.Pair.{Pair}
use Rattle.cow_image.specs.declared.fault.Fault.{Fault}
use Rattle.cow_image.specs.declared.fault.Fault.TheVariants.{PastOrigin, OutsideStore, AtArea, OldTwice, NewTwice}
use Rattle.cow_image.specs.declared.reading.Listed.{Listed}
use Rattle.cow_image.specs.declared.reading.Listed.TheVariants.{Ends, Lacks}
use Rattle.cow_salvage.specs.declared.span.Span.{Span}
use Rattle.cow_reports.specs.Json.{member_text}
use Rattle.cow_reports.specs.Lines.{follows}

-- the first member of an object: a key and a number
abbrev pub first_member : List ℕ → ℕ → List ℕ
first_member key number = codes "{\"" ++ (key ++ (codes "\":" ++ decimal number))

-- the first member of an object: a key and a text
abbrev pub first_quoted : List ℕ → List ℕ → List ℕ
first_quoted key text = codes "{\"" ++ (key ++ (codes "\":\"" ++ (text ++ codes "\"")))

-- an object of a key and a number
abbrev pub number_object : List ℕ → ℕ → List ℕ
number_object key number = first_member key number ++ codes "}\n"

-- the last members of an object: a pair's chunks
abbrev pub pair_end : Pair → List ℕ
pair_end pair = member_text (codes "old") pair.old ++ (member_text (codes "new") pair.new ++ codes "}\n")

-- the members of a slot's place, in a store whose areas have so many
abbrev pub slot_members : ℕ → ℕ → List ℕ
slot_members slots slot = member_text (codes "area") (slot / slots) ++ member_text (codes "slot") (slot % slots)

-- the object of a run: its first pair, and how many pairs it has
abbrev pub run_object : Pair → ℕ → List ℕ
run_object first count = first_member (codes "old") first.old ++ (member_text (codes "new") first.new ++ (member_text (codes "count") count ++ codes "}\n"))

-- the objects of a run that has some pairs already, and of the runs after it
abbrev pub run_objects_from : Pair → Pair → ℕ → List Pair → List ℕ
run_objects_from first last count [] = run_object first count
run_objects_from first last count (pair ∷ pairs) = if follows last pair then run_objects_from first pair (count + 1) pairs else (run_object first count ++ run_objects_from pair pair 1 pairs)

-- An object for each run of pairs: as long as each pair follows the one before.
abbrev pub run_objects : List Pair → List ℕ
run_objects [] = []
run_objects (pair ∷ pairs) = run_objects_from pair pair 1 pairs

-- the object of a slot, in a store whose areas have so many slots
abbrev pub slot_object : ℕ → ℕ → Pair → List ℕ
slot_object slots slot pair = first_member (codes "area") (slot / slots) ++ (member_text (codes "slot") (slot % slots) ++ pair_end pair)

-- an object for each slot, from one on
abbrev pub slot_objects : ℕ → ℕ → List Pair → List ℕ
slot_objects slots slot [] = []
slot_objects slots slot (pair ∷ pairs) = slot_object slots slot pair ++ slot_objects slots (slot + 1) pairs

-- how the areas of a store end: the area of the first empty slot, or the one that is not there
abbrev pub listed_object : Listed → List ℕ
listed_object (Ends area) = number_object (codes "ends") area
listed_object (Lacks area) = number_object (codes "lacks") area

-- the object of a pair that is kept from behind the first empty slot
abbrev pub doubtful_object : Pair → List ℕ
doubtful_object pair = first_quoted (codes "doubtful") (codes "behind") ++ pair_end pair

-- an object for each of them
abbrev pub doubtful_objects : List Pair → List ℕ
doubtful_objects pairs = flat_map doubtful_object pairs

-- the object of a slot whose pair has this fault
abbrev pub faulty_object : List ℕ → List ℕ → ℕ → ℕ → Pair → List ℕ
faulty_object key word slots slot pair = first_quoted key word ++ (slot_members slots slot ++ pair_end pair)

-- what is wrong with a pair, and where it stands, in a store whose areas have so many slots
abbrev pub fault_object : List ℕ → ℕ → Fault → List ℕ
fault_object key slots (PastOrigin slot pair) = faulty_object key (codes "past_origin") slots slot pair
fault_object key slots (OutsideStore slot pair) = faulty_object key (codes "outside_store") slots slot pair
fault_object key slots (AtArea slot pair) = faulty_object key (codes "at_area") slots slot pair
fault_object key slots (OldTwice slot pair) = faulty_object key (codes "old_twice") slots slot pair
fault_object key slots (NewTwice slot pair) = faulty_object key (codes "new_twice") slots slot pair

abbrev pub fault_objects : List ℕ → ℕ → List Fault → List ℕ
fault_objects key slots faults = flat_map (fault_object key slots) faults

-- how many slots behind the first empty one are not, and the first of them
abbrev pub behind_object : ℕ → ℕ → ℕ → List ℕ
behind_object slots count slot = first_member (codes "behind") count ++ (slot_members slots slot ++ codes "}\n")

-- the last members of an object: the byte where a span begins, and how many bytes it has
abbrev pub span_end : Span → List ℕ
span_end span = member_text (codes "start") (512 * span.first) ++ (member_text (codes "length") (512 * span.count) ++ codes "}\n")

-- a span of a file that could not be read
abbrev pub unread_object : List ℕ → Span → List ℕ
unread_object file span = first_quoted (codes "unreadable") file ++ span_end span

abbrev pub unread_objects : List ℕ → List Span → List ℕ
unread_objects file spans = flat_map (unread_object file) spans

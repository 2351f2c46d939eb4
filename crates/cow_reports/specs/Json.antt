-- What is printed of a store as one JSON object on a line. The keys are those of the lines; a status has three numbers.
use Rattle.std.specs.Prelude.{ℕ, ◌*◌, ◌%◌, List, [], ◌++◌, codes, decimal, flat_map, length, Option, Some, None}
use Rattle.cow_image.specs.Usage.{allocated_by, metadata_by}
use Rattle.cow_image.specs.declared.map.CowMap.{CowMap}
use Rattle.cow_image.specs.declared.found.Reason.{Reason}
use Rattle.cow_image.specs.declared.found.Told.{Told}
use Rattle.cow_image.specs.declared.found.Told.TheVariants.{Fresh, Refused, Written}
use Rattle.cow_salvage.specs.declared.span.Span.{Span}
use Rattle.cow_reports.specs.declared.showing.Numbers.{Numbers}
use Rattle.cow_reports.specs.Reasons.{reason_text, refused_name}
use Rattle.cow_reports.specs.Shows.{slots_by}

-- one member more: a key and a number
abbrev pub member_text : List ℕ → ℕ → List ℕ
member_text key number = codes ",\"" ++ (key ++ (codes "\":" ++ decimal number))

-- one member more: a key and a text
abbrev pub quoted_text : List ℕ → List ℕ → List ℕ
quoted_text key text = codes ",\"" ++ (key ++ (codes "\":\"" ++ (text ++ codes "\"")))

-- the members of a header, where there is one
abbrev pub header_members : Option Numbers → List ℕ
header_members None = []
header_members (Some n) = member_text (codes "magic") n.magic ++ (member_text (codes "valid") n.valid ++ (member_text (codes "version") n.version ++ member_text (codes "chunk") n.chunk))

-- the members of a refusal's name, and of its reason, in a store whose areas have so many slots
abbrev pub name_member : Reason → List ℕ
name_member reason = quoted_text (codes "refused") (refused_name reason)

abbrev pub reason_member : ℕ → Reason → List ℕ
reason_member slots reason = codes ",\"reason\":\"" ++ (reason_text slots reason ++ codes "\"")

-- the members of a map: its pairs and where they end, and its status
abbrev pub place_members : ℕ → CowMap → List ℕ
place_members slots map = member_text (codes "pairs") (length map.pairs.items) ++ (member_text (codes "area") map.current ++ member_text (codes "slot") (length map.pairs.items % slots))

abbrev pub status_members : ℕ → ℕ → ℕ → List ℕ
status_members allocated total metadata = member_text (codes "allocated") allocated ++ (member_text (codes "total") total ++ member_text (codes "metadata") metadata)

abbrev pub usage_members : CowMap → List ℕ
usage_members map = status_members (allocated_by map.chunk map.pairs.items) map.size (metadata_by map.chunk map.current)

-- the members of what is told of a store, whose areas have so many slots
abbrev pub told_members : ℕ → Told → List ℕ
told_members slots Fresh = codes ",\"fresh\":true"
told_members slots (Refused reason) = name_member reason ++ reason_member slots reason
told_members slots (Written map) = place_members slots map ++ usage_members map

-- the front of an object: the store's sectors
abbrev pub front_text : ℕ → List ℕ
front_text sectors = codes "{\"sectors\":" ++ decimal sectors

-- the object of a store of so many sectors
abbrev pub json_text : ℕ → Option Numbers → Told → List ℕ
json_text sectors numbers told = front_text sectors ++ (header_members numbers ++ (told_members (slots_by numbers) told ++ codes "}\n"))

-- an object a span, each on a line of its own: the byte where it begins, and how many bytes it has
abbrev pub span_object : Span → List ℕ
span_object span = codes "{\"start\":" ++ (decimal (512 * span.first) ++ (member_text (codes "length") (512 * span.count) ++ codes "}\n"))

abbrev pub spans_objects : List Span → List ℕ
spans_objects spans = flat_map span_object spans

-- What `map --over` prints of the ranges of a snapshot's array.
use Rattle.std.specs.Prelude.{ℕ, List, [], ◌∷◌, ◌++◌, codes, decimal, flat_map, Option, Some, None}
use Rattle.snapshot_extents.specs.declared.range.Range.{Range}
use Rattle.image_options.specs.declared.asked.Form.{Form}
use Rattle.image_options.specs.declared.asked.Form.TheVariants.{Lines, Json}
use Rattle.cow_reports.specs.Items.{first_member}
use Rattle.cow_reports.specs.Json.{member_text}
use Rattle.image_reports.specs.Names.{json_name}

-- where a range's bytes stand: in the origin, or in the store from a byte on
abbrev pub place_text : Option ℕ → List ℕ
place_text None = codes " origin\n"
place_text (Some copy) = codes " cow " ++ (decimal copy ++ codes "\n")

-- a line for each range
abbrev pub range_line : Range → List ℕ
range_line range = decimal range.start ++ (codes " " ++ (decimal range.count ++ place_text range.copy))

-- an object for each range, with the keys of `qemu-img map --output=json`
abbrev pub name_members : ℕ → List ℕ → List ℕ
name_members at name = member_text (codes "offset") at ++ (codes ",\"filename\":\"" ++ (json_name name ++ codes "\"}"))

abbrev pub place_members : List ℕ → List ℕ → ℕ → Option ℕ → List ℕ
place_members origin cow start None = name_members start origin
place_members origin cow start (Some copy) = name_members copy cow

abbrev pub range_object : List ℕ → List ℕ → Range → List ℕ
range_object origin cow range = first_member (codes "start") range.start ++ (member_text (codes "length") range.count ++ (codes ",\"present\":true,\"data\":true" ++ place_members origin cow range.start range.copy))

-- one array of them, each on a line of its own
abbrev pub next_object : List ℕ → List ℕ → Range → List ℕ
next_object origin cow range = codes ",\n" ++ range_object origin cow range

abbrev pub objects_text : List ℕ → List ℕ → List Range → List ℕ
objects_text origin cow [] = []
objects_text origin cow (range ∷ ranges) = range_object origin cow range ++ flat_map (next_object origin cow) ranges

abbrev pub document : List ℕ → List ℕ → List Range → List ℕ
document origin cow ranges = codes "[" ++ (objects_text origin cow ranges ++ codes "]\n")

abbrev pub ranged_by : Form → List ℕ → List ℕ → List Range → List ℕ
ranged_by Lines origin cow ranges = flat_map range_line ranges
ranged_by Json origin cow ranges = document origin cow ranges

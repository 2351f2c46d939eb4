-- What `compare` prints of two images, which have so many sectors.
use Rattle.std.specs.Prelude.{ℕ, ◌*◌, List, [], ◌++◌, codes, nat_lt, Option, Some, None, if◌then◌else◌}
use Rattle.image_compare.specs.declared.comparing.Compared.{Compared}
use Rattle.image_options.specs.declared.asked.Form.{Form}
use Rattle.image_options.specs.declared.asked.Form.TheVariants.{Lines, Json}
use Rattle.cow_reports.specs.Shows.{line_text}
use Rattle.cow_reports.specs.Items.{first_member, number_object}
use Rattle.cow_reports.specs.Json.{member_text}

-- which is shorter, and its bytes
abbrev pub shorter_lines : ℕ → ℕ → List ℕ
shorter_lines size other =
    if nat_lt size other then line_text (codes "shorter A") (512 * size)
    else (if nat_lt other size then line_text (codes "shorter B") (512 * other) else [])

abbrev pub shorter_members : ℕ → ℕ → List ℕ
shorter_members size other =
    if nat_lt size other then codes ",\"shorter\":\"A\"" ++ member_text (codes "length") (512 * size)
    else (if nat_lt other size then codes ",\"shorter\":\"B\"" ++ member_text (codes "length") (512 * other) else [])

-- two that are the same: how many bytes; else the first in which they differ, in how many sectors of both, and the shorter one
abbrev pub compared_lines : ℕ → ℕ → ℕ → Option ℕ → List ℕ
compared_lines size other differing None = line_text (codes "same") (512 * size)
compared_lines size other differing (Some at) = line_text (codes "first") at ++ (line_text (codes "differing") differing ++ shorter_lines size other)

abbrev pub compared_object : ℕ → ℕ → ℕ → Option ℕ → List ℕ
compared_object size other differing None = number_object (codes "same") (512 * size)
compared_object size other differing (Some at) = first_member (codes "first") at ++ (member_text (codes "differing") differing ++ (shorter_members size other ++ codes "}\n"))

abbrev pub compared_by : Form → Compared → ℕ → ℕ → List ℕ
compared_by Lines found size other = compared_lines size other found.differing found.first
compared_by Json found size other = compared_object size other found.differing found.first

-- What is printed of what a merge left: how many pairs are gone, how many are left, and the store's status.
use Rattle.std.specs.Prelude.{ℕ, List, ◌++◌, codes}
use Rattle.cow_image.specs.declared.map.CowMap.{CowMap}
use Rattle.cow_reports.specs.Items.{first_member}
use Rattle.cow_reports.specs.Json.{member_text, usage_members}
use Rattle.cow_reports.specs.Shows.{line_text, usage_text}

abbrev pub left_text : ℕ → ℕ → CowMap → List ℕ
left_text gone left map = line_text (codes "merged") gone ++ (line_text (codes "left") left ++ usage_text map)

abbrev pub left_object : ℕ → ℕ → CowMap → List ℕ
left_object gone left map = first_member (codes "merged") gone ++ (member_text (codes "left") left ++ (usage_members map ++ codes "}\n"))

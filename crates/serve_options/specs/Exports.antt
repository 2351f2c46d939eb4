-- The names of exports. This project's own.
use Rattle.std.specs.Prelude.{ℕ, ◌==◌, ◌||◌, Bool, List, [], ◌∷◌, ◌++◌, length, codes, Option, Some, None, if◌then◌else◌}
use Rattle.std.specs.List.{list_any}
use Rattle.std.specs.Str.{bytes_eq}

-- a name's part behind its last `/`, of which this was read
abbrev pub last_part : List ℕ → List ℕ → List ℕ
last_part part [] = part
last_part part (letter ∷ letters) = if letter == 47 then last_part [] letters else last_part (part ++ letter ∷ []) letters

-- whether the export of one of these snapshots has this name
abbrev pub has_export : List (List ℕ) → List ℕ → Bool
has_export cows name = list_any (λ cow. bytes_eq (last_part [] cow) name) cows

-- that of one behind these can't have its name: it is empty, the origin's, or that of one before
abbrev pub is_unfit : List (List ℕ) → List ℕ → Bool
is_unfit before cow = (length (last_part [] cow) == 0) || bytes_eq (last_part [] cow) (codes "origin") || has_export before (last_part [] cow)

abbrev pub first_unfit : List (List ℕ) → List (List ℕ) → Option (List ℕ)
first_unfit before [] = None
first_unfit before (cow ∷ cows) = if is_unfit before cow then Some cow else first_unfit (before ++ cow ∷ []) cows

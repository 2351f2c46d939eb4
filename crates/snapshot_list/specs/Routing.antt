-- To be believed: `run`'s output, a volume's steps or its attach are said in these words.
-- Where requests of the origin go while a merge is begun, and which of its writes start no copies. This project's own.
use Rattle.std.specs.Prelude.{◌||◌, ℕ, ◌/◌, Bool, false, Option, Some, None}
use Rattle.std.specs.Option.{is_some}
use Rattle.cow_format.specs.Picture.{place_of}
use Rattle.volume_laws.specs.Again.{has_chunk}
use Rattle.merge.specs.Lists.{group_pairs}
use Rattle.merge.specs.Merging.{Merging}

-- whether the chunk of a sector is in the merge's present group
abbrev pub is_grouped_at : {B : Type 0} → ℕ → Option (Merging B) → Bool
is_grouped_at first None = false
is_grouped_at first (Some m) = has_chunk (group_pairs m.group) (first / m.state.chunk)

-- where the merging store has the chunk of a sector
abbrev pub place_at : {B : Type 0} → ℕ → Option (Merging B) → Option ℕ
place_at first None = None
place_at first (Some m) = place_of m.pairs (first / m.state.chunk)

-- whether a write of the origin at a sector is the merge's: it starts no copies
abbrev pub is_merged_at : {B : Type 0} → ℕ → Option (Merging B) → Bool
is_merged_at first merge = is_grouped_at first merge || is_some (place_at first merge)

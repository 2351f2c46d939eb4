-- The numbers of a status line, in sectors, as the kernel counts them.
use Rattle.std.specs.Prelude.{ℕ, ◌+◌, ◌*◌, List, fold, max, if◌then◌else◌}
use Rattle.sector.specs.declared.pair.Pair.{Pair}
use Rattle.cow_format.specs.Places.{is_area_place}

-- the chunk after the greatest new chunk of these pairs, from 2 on
abbrev pub past_new : List Pair → ℕ
past_new pairs = fold (λ past pair. max past (pair.new + 1)) 2 pairs

-- The next place: the least chunk from 2 on that is no area's place and greater than every new chunk.
abbrev pub next_place : ℕ → List Pair → ℕ
next_place chunk pairs = if is_area_place chunk (past_new pairs) then past_new pairs + 1 else past_new pairs

-- the front of the store, up to the next place
abbrev pub allocated_by : ℕ → List Pair → ℕ
allocated_by chunk pairs = next_place chunk pairs * chunk

-- the header, and the areas up to the current one
abbrev pub metadata_by : ℕ → ℕ → ℕ
metadata_by chunk current = (current + 2) * chunk

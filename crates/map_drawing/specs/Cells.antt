-- To be believed: what `map --picture` shows is said in these words.
-- The parts of an origin, and in how many of their chunks there are copies.
use Rattle.std.specs.Prelude.{◌≡◌, ◌==◌, ℕ, ◌+◌, ◌-◌, ◌*◌, ◌/◌, ◌<◌, List, length, map, min, nat_lt, slice_index, slice_set, if◌then◌else◌}
use Rattle.std.specs.List.{count_by, range_with_len}
use Rattle.sector.specs.declared.pair.Pair.{Pair}
use Rattle.map_drawing.specs.declared.picture.Cells.{Cells}

-- how many pairs have their chunk in a cell, of cells of so many chunks
abbrev pub count_in : ℕ → List Pair → ℕ → ℕ
count_in part pairs cell = count_by (λ pair. pair.old / part == cell) pairs

-- the cells of an origin of so many chunks: 1024 at the most, all of one size but for the last one
pub record AreCells (pairs : List Pair) (chunks : ℕ) (cells : Cells) : Type 0 where
  pub all : cells.all ≡ chunks
  pub some : 0 < cells.part
  pub few : cells.part ≡ 1 + chunks / 1024
  pub counts : cells.counts.items ≡ map (count_in cells.part pairs) (range_with_len 0 ((chunks + chunks / 1024) / cells.part))

-- how many chunks a cell has
abbrev pub chunks_in : ℕ → ℕ → ℕ → ℕ
chunks_in part all cell = min part (all - cell * part)

-- one more is counted in a cell, if there is one
abbrev pub with_one : List ℕ → ℕ → List ℕ
with_one counts cell = if nat_lt cell (length counts) then slice_set counts cell (slice_index counts cell + 1) else counts

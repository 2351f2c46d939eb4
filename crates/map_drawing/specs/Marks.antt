-- How cells are drawn: rows of 64, each cell darker the more of its chunks have copies.
use Rattle.std.specs.Prelude.{ℕ, ◌+◌, ◌*◌, ◌/◌, ◌%◌, ◌==◌, ◌||◌, List, [], ◌∷◌, ◌++◌, codes, decimal, length, slice_index, max, min, if◌then◌else◌}
use Rattle.cow_reports.specs.Shows.{line_text}
use Rattle.map_drawing.specs.Cells.{chunks_in}
use Rattle.map_drawing.specs.declared.picture.Cells.{Cells}

-- how dark, from 0 to 9: 0 where no chunk has a copy, 9 where all have
abbrev pub level : ℕ → ℕ → ℕ
level count chunks = if count == 0 then 0 else 1 + 8 * min count chunks / max 1 chunks

abbrev pub marks : List ℕ
marks = codes " .:-=+*#%@"

-- a cell in a terminal: a bar where its row begins and where it ends
abbrev pub begins : ℕ → List ℕ
begins cell = if cell % 64 == 0 then codes "|" else []

abbrev pub ends : ℕ → ℕ → List ℕ
ends number cell = if (cell % 64 == 63) || (cell + 1 == number) then codes "|\n" else []

abbrev pub cell_text : ℕ → ℕ → ℕ → List ℕ
cell_text number cell level = begins cell ++ (slice_index marks level ∷ ends number cell)

-- the cells from one on, by their counts
abbrev pub cells_text : Cells → ℕ → List ℕ → List ℕ
cells_text cells cell [] = []
cells_text cells cell (count ∷ counts) = cell_text (length cells.counts.items) cell (level count (chunks_in cells.part cells.all cell)) ++ cells_text cells (cell + 1) counts

-- what `map --picture` prints: how many chunks a cell has, and the rows
abbrev pub rows_text : Cells → List ℕ
rows_text cells = line_text (codes "cell") cells.part ++ cells_text cells 0 cells.counts.items

-- a cell in a drawing: a square of 8 by 8, as dark as it has copies
abbrev pub square : ℕ → ℕ → List ℕ
square cell level = codes "<rect x=\"" ++ (decimal (8 * (cell % 64)) ++ (codes "\" y=\"" ++ (decimal (8 * (cell / 64)) ++ (codes "\" width=\"8\" height=\"8\" fill-opacity=\"0." ++ (decimal level ++ codes "\"/>\n")))))

abbrev pub squares : Cells → ℕ → List ℕ → List ℕ
squares cells cell [] = []
squares cells cell (count ∷ counts) = square cell (level count (chunks_in cells.part cells.all cell)) ++ squares cells (cell + 1) counts

-- the drawing, in SVG 1.1
abbrev pub drawing_text : Cells → List ℕ
drawing_text cells = codes "<svg xmlns=\"http://www.w3.org/2000/svg\" width=\"512\" height=\"128\">\n" ++ (squares cells 0 cells.counts.items ++ codes "</svg>\n")

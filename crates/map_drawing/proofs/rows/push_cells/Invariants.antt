use Rattle.std.proofs.Common.{◌≡◌, ◌++◌, drop}
use Rattle.map_drawing.specs.Marks.{cells_text}
use Rattle.map_drawing.proofs.rows.push_cells.Given as goal

abbrev pub invariant-loop-cell : goal.invariant-loop-cell
invariant-loop-cell l = l.text.items ++ cells_text l.cells l.cell (drop l.cell l.cells.counts.items) ≡ l.initial.text.items ++ cells_text l.cells 0 l.cells.counts.items

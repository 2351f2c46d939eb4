use Rattle.std.proofs.Common.{◌≡◌, ◌++◌, drop}
use Rattle.map_drawing.specs.Marks.{squares}
use Rattle.map_drawing.proofs.drawing.push_squares.Given as goal

abbrev pub invariant-loop-cell : goal.invariant-loop-cell
invariant-loop-cell l = l.text.items ++ squares l.cells l.cell (drop l.cell l.cells.counts.items) ≡ l.initial.text.items ++ squares l.cells 0 l.cells.counts.items

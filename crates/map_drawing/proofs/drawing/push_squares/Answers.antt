use Rattle.std.proofs.Common.{◌<◌, ◌++◌, ℕ, ◌+◌, List, length, get_or, drop, ap, ◌∙◌, subst}
use Rattle.map_drawing.specs.Cells.{chunks_in}
use Rattle.map_drawing.specs.Marks.{level, square, squares}
use Rattle.map_drawing.proofs.Squares.{squares_on}
use Rattle.map_drawing.proofs.drawing.push_squares.Goals as goal

pub loop-cell-preserved : goal.loop-cell-preserved
loop-cell-preserved c =
    let cells = c.args.cells.now in
    let cell = c.loop-cell.cell in
    let items = c.as_slice-count-items.ensures.value in
    let lt : cell < length cells.counts.items = subst (λ (xs : List ℕ). cell < length xs) items c.loop-cell-test.true in
    ap (λ (xs : List ℕ). xs ++ squares cells (cell + 1) (drop (cell + 1) cells.counts.items))
    (c.in_ok-push_square.ensures
    ∙ ap (λ (n : ℕ). c.loop-cell.text.items ++ square cell n) (c.level-level.ensures.value ∙ ap (λ (xs : List ℕ). level (get_or xs cell 0) (chunks_in cells.part cells.all cell)) items))
    ∙ squares_on c.loop-cell.text.items _ cells cells.counts.items cell 0 lt c.loop-cell.invariant

use Rattle.std.proofs.Common.{◌+◌, ◌/◌, ◌∙◌}
use Rattle.map_drawing.proofs.Counts.{none_counted_in}
use Rattle.map_drawing.proofs.cells.count_cells.Goals as goal

pub count-requires-clause-none : goal.count-requires-clause-none
count-requires-clause-none c = none_counted_in (c.args.all / 1024 + 1) _ c.as_mut_slice.result.now (c.as_mut_slice.ensures.value ∙ c.in_ok-counts.ensures.items_if_clones_equal (λ y h. h))

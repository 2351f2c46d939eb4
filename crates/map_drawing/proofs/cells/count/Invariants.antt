use Rattle.std.proofs.Common.{◌≡◌, map, take, length}
use Rattle.std.specs.List.{range_with_len}
use Rattle.map_drawing.specs.Cells.{count_in}
use Rattle.map_drawing.proofs.cells.count.Given as goal

abbrev pub invariant-loop-pair : goal.invariant-loop-pair
invariant-loop-pair l = l.counts ≡ map (count_in l.part (take l.pair-index l.pairs)) (range_with_len 0 (length l.initial.counts))

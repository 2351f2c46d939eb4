use Rattle.std.proofs.Common.{◌-◌, ◌<◌, ◌≤◌}
use Rattle.cow_image.specs.Runs.{IsRow}
use Rattle.cow_image.proofs.running.row_at.Given as goal

abbrev pub invariant-loop-count : goal.invariant-loop-count
invariant-loop-count l = record {
  some : 0 < l.count;
  few : 0 < l.most → l.count ≤ l.most;
  row : IsRow l.pairs l.low l.count;
}

abbrev pub decreases-loop-count : goal.decreases-loop-count
decreases-loop-count l = l.most - l.count

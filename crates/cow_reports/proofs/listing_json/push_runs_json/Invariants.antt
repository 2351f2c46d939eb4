use Rattle.std.proofs.Common.{◌≡◌, ◌≤◌, ◌++◌, drop}
use Rattle.cow_reports.specs.Items.{run_objects_from, run_objects}
use Rattle.cow_reports.proofs.listing_json.push_runs_json.Given as goal

abbrev pub invariant-loop-index : goal.invariant-loop-index
invariant-loop-index l = record {
  some : 1 ≤ l.index;
  few : l.run.count ≤ l.index;
  told : l.text.items ++ run_objects_from l.run.first l.run.last l.run.count (drop l.index l.pairs) ≡ l.initial.text.items ++ run_objects l.pairs;
}

use Rattle.std.proofs.Common.{◌≡◌, ◌≤◌, ◌++◌, drop}
use Rattle.cow_reports.specs.Lines.{runs_from, runs_text}
use Rattle.cow_reports.proofs.listing.push_runs_lines.Given as goal

abbrev pub invariant-loop-index : goal.invariant-loop-index
invariant-loop-index l = record {
  some : 1 ≤ l.index;
  few : l.run.count ≤ l.index;
  told : l.text.items ++ runs_from l.run.first l.run.last l.run.count (drop l.index l.pairs) ≡ l.initial.text.items ++ runs_text l.pairs;
}

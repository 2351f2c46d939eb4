use Rattle.std.proofs.Common.{◌≡◌, ◌++◌, take}
use Rattle.cow_reports.specs.Items.{doubtful_objects}
use Rattle.cow_reports.proofs.faults_json.push_doubtful_json.Given as goal

abbrev pub invariant-loop-pair : goal.invariant-loop-pair
invariant-loop-pair l = l.text.items ≡ l.initial.text.items ++ doubtful_objects (take l.pair-index l.pairs)

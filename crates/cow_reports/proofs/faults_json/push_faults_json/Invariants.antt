use Rattle.std.proofs.Common.{◌≡◌, ◌++◌, take}
use Rattle.cow_reports.specs.Items.{fault_objects}
use Rattle.cow_reports.proofs.faults_json.push_faults_json.Given as goal

abbrev pub invariant-loop-fault : goal.invariant-loop-fault
invariant-loop-fault l = l.text.items ≡ l.initial.text.items ++ fault_objects l.key l.slots (take l.fault-index l.faults)

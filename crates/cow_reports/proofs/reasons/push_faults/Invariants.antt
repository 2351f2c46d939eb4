use Rattle.std.proofs.Common.{◌≡◌, ◌++◌, take}
use Rattle.cow_reports.specs.Reasons.{faults_text}
use Rattle.cow_reports.proofs.reasons.push_faults.Given as goal

abbrev pub invariant-loop-fault : goal.invariant-loop-fault
invariant-loop-fault l = l.text.items ≡ l.initial.text.items ++ faults_text l.slots (take l.fault-index l.faults)

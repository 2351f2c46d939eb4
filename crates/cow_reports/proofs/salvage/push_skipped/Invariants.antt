use Rattle.std.proofs.Common.{◌≡◌, ◌++◌, take}
use Rattle.cow_reports.specs.Salvage.{skipped_text}
use Rattle.cow_reports.proofs.salvage.push_skipped.Given as goal

abbrev pub invariant-loop-fault : goal.invariant-loop-fault
invariant-loop-fault l = l.text.items ≡ l.initial.text.items ++ skipped_text l.slots (take l.fault-index l.faults)

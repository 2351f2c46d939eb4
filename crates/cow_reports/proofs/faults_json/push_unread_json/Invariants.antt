use Rattle.std.proofs.Common.{◌≡◌, ◌++◌, take}
use Rattle.cow_reports.specs.Items.{unread_objects}
use Rattle.cow_reports.proofs.faults_json.push_unread_json.Given as goal

abbrev pub invariant-loop-span : goal.invariant-loop-span
invariant-loop-span l = l.text.items ≡ l.initial.text.items ++ unread_objects l.file (take l.span-index l.spans)

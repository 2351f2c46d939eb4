use Rattle.std.proofs.Common.{◌≡◌, ◌++◌, drop}
use Rattle.cow_reports.specs.Items.{slot_objects}
use Rattle.cow_reports.proofs.listing_json.push_slots_json.Given as goal

abbrev pub invariant-loop-slot : goal.invariant-loop-slot
invariant-loop-slot l = l.text.items ++ slot_objects l.slots l.slot (drop l.slot l.pairs) ≡ l.initial.text.items ++ slot_objects l.slots 0 l.pairs

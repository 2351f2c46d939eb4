use Rattle.std.proofs.Common.{◌≡◌, ◌++◌, drop}
use Rattle.cow_reports.specs.Lines.{slots_text}
use Rattle.cow_reports.proofs.listing.push_slots.Given as goal

abbrev pub invariant-loop-slot : goal.invariant-loop-slot
invariant-loop-slot l = l.text.items ++ slots_text l.slots l.slot (drop l.slot l.pairs) ≡ l.initial.text.items ++ slots_text l.slots 0 l.pairs

use Rattle.std.proofs.Common.{◌≡◌, ◌++◌, take}
use Rattle.counted_volume.specs.Trace.{events_of_copies}
use Rattle.counted_volume.proofs.trace.add_copies.Given as goal

abbrev pub invariant-loop-copy : goal.invariant-loop-copy
invariant-loop-copy l = l.events.items ≡ l.initial.events.items ++ events_of_copies (take l.copy-index l.copies)

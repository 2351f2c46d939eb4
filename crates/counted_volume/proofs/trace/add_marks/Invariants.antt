use Rattle.std.proofs.Common.{◌≡◌, ◌++◌, take}
use Rattle.counted_volume.specs.Trace.{events_of_marks}
use Rattle.counted_volume.proofs.trace.add_marks.Given as goal

abbrev pub invariant-loop-mark : goal.invariant-loop-mark
invariant-loop-mark l = l.events.items ≡ l.initial.events.items ++ events_of_marks (take l.mark-index l.marks)

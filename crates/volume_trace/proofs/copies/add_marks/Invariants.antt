use Rattle.std.proofs.Common.{◌≡◌, ◌++◌, take}
use Rattle.volume_trace.specs.Trace.{marks_text}
use Rattle.volume_trace.proofs.copies.add_marks.Given as goal

abbrev pub invariant-loop-mark : goal.invariant-loop-mark
invariant-loop-mark l = l.out.items ≡ l.initial.out.items ++ marks_text l.name (take l.mark-index l.marks)

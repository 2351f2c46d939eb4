-- The marks before the present one are safe, the others are as they were.
use Rattle.std.proofs.Common.{◌≡◌, ◌++◌, map, take, drop}
use Rattle.in_flight.specs.Flushed.{safe_mark}
use Rattle.in_flight.proofs.copies.flush_marks.Given as goal

abbrev pub invariant-loop-mark : goal.invariant-loop-mark
invariant-loop-mark l = l.marks ≡ map safe_mark (take l.mark-index l.fn.marks) ++ drop l.mark-index l.fn.marks

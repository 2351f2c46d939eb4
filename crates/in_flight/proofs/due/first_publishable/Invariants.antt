-- The marks so far have chunks that are being read.
use Rattle.std.proofs.Common.{◌≡◌, drop}
use Rattle.in_flight.specs.Due.{first_by, is_publishable, number_of_mark}
use Rattle.in_flight.proofs.due.first_publishable.Given as goal

abbrev pub invariant-loop-mark : goal.invariant-loop-mark
invariant-loop-mark l = first_by (is_publishable l.snap l.chunk_sectors l.flights) number_of_mark l.marks ≡ first_by (is_publishable l.snap l.chunk_sectors l.flights) number_of_mark (drop l.mark-index l.marks)

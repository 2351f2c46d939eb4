-- The copies so far are at other stages.
use Rattle.std.proofs.Common.{◌≡◌, drop}
use Rattle.in_flight.specs.Due.{first_by, is_copy_at, number_of_copy}
use Rattle.in_flight.proofs.due.first_copy.Given as goal

abbrev pub invariant-loop-copy : goal.invariant-loop-copy
invariant-loop-copy l = first_by (is_copy_at l.stage) number_of_copy l.copies ≡ first_by (is_copy_at l.stage) number_of_copy (drop l.copy-index l.copies)

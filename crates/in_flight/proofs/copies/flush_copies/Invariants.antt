-- The copies before the present one are flushed, the others are as they were.
use Rattle.std.proofs.Common.{◌≡◌, ◌++◌, map, take, drop}
use Rattle.in_flight.specs.Flushed.{flushed_copy}
use Rattle.in_flight.proofs.copies.flush_copies.Given as goal

abbrev pub invariant-loop-copy : goal.invariant-loop-copy
invariant-loop-copy l = l.copies ≡ map flushed_copy (take l.copy-index l.fn.copies) ++ drop l.copy-index l.fn.copies

-- The requests so far are held.
use Rattle.std.proofs.Common.{◌≡◌, drop}
use Rattle.in_flight.specs.Due.{first_by, is_issuable, number_of_flight}
use Rattle.in_flight.proofs.due.first_routed.Given as goal

abbrev pub invariant-loop-f : goal.invariant-loop-f
invariant-loop-f l = first_by is_issuable number_of_flight l.flights ≡ first_by is_issuable number_of_flight (drop l.f-index l.flights)

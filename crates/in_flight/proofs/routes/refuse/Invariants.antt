-- The requests before the present one are refused, the others are as they were.
use Rattle.std.proofs.Common.{◌≡◌, ◌++◌, ◌∷◌, [], map, take, drop}
use Rattle.in_flight.specs.Routes.{refused_of}
use Rattle.in_flight.proofs.routes.refuse.Given as goal

abbrev pub invariant-loop-f : goal.invariant-loop-f
invariant-loop-f l = l.flights ≡ map (refused_of (l.snap ∷ [])) (take l.f-index l.fn.flights) ++ drop l.f-index l.fn.flights

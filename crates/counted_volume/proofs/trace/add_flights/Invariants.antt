use Rattle.std.proofs.Common.{◌≡◌, ◌++◌, take}
use Rattle.counted_volume.specs.Trace.{events_of_flights}
use Rattle.counted_volume.proofs.trace.add_flights.Given as goal

abbrev pub invariant-loop-flight : goal.invariant-loop-flight
invariant-loop-flight l = l.events.items ≡ l.initial.events.items ++ events_of_flights (take l.flight-index l.flights)

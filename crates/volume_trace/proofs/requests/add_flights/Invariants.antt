use Rattle.std.proofs.Common.{◌≡◌, ◌++◌, take}
use Rattle.volume_trace.specs.Trace.{flights_text}
use Rattle.volume_trace.proofs.requests.add_flights.Given as goal

abbrev pub invariant-loop-flight : goal.invariant-loop-flight
invariant-loop-flight l = l.out.items ≡ l.initial.out.items ++ flights_text l.origin l.names l.snaps (take l.flight-index l.flights)

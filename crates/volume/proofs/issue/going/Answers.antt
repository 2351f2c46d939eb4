-- The request that was found.
use Rattle.std.proofs.Common.{ap, sym, nat_eq}
use Rattle.in_flight.specs.declared.flights.Flight.{Flight}
use Rattle.snapshot_list.proofs.Finds.{position_within}
use Rattle.volume.proofs.Issued.{issued_at, issued_none}
use Rattle.volume.proofs.issue.going.Goals as goal

pub bounds-flights-place : goal.bounds-flights-place
bounds-flights-place c = position_within (λ (f : Flight). nat_eq f.number c.args.number) c.args.flights.now c.in-Some.place (sym c.in-Some.ensures)

pub returns-in-None-clause-due : goal.returns-in-None-clause-due
returns-in-None-clause-due c = issued_none c.args.number c.args.flights.now (sym c.in-None.ensures)

pub returns-in-Some-clause-due : goal.returns-in-Some-clause-due
returns-in-Some-clause-due c =
    issued_at c.args.number c.args.flights.now c.in-Some.place c.index-flights-place.result c.index-flights-place.result.route (sym c.in-Some.ensures) (ap (λ (f : Flight). f.route) (sym c.index-flights-place.is))

-- One request more is refused.
use Rattle.std.proofs.Common.{◌∷◌, []}
use Rattle.std.proofs.lemmas.List.Edits.{map_over_more}
use Rattle.in_flight.specs.Routes.{refused_of}
use Rattle.in_flight.proofs.routes.refuse.Goals as goal

pub loop-f-preserved : goal.loop-f-preserved
loop-f-preserved c =
    let x = c.f-item.result in
    let i = c.loop-f.f-index in
    rw (c.refused_route-f.ensures, c.request_kind.ensures, ← c.f-item.is) (map_over_more (refused_of (c.args.snap ∷ [])) c.args.flights.now c.loop-f.flights i x c.loop-f-test.true c.loop-f.invariant c.f-item.is)

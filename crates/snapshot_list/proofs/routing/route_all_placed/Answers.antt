-- One request more is routed again.
use Rattle.std.proofs.lemmas.List.Edits.{map_over_more}
use Rattle.volume_laws.specs.Again.{placed_of}
use Rattle.snapshot.specs.Kept.{books_of}
use Rattle.snapshot_list.proofs.routing.route_all_placed.Goals as goal

pub loop-f-preserved : goal.loop-f-preserved
loop-f-preserved g c =
    let x = c.f-item.result in
    let i = c.loop-f.f-index in
    rw (c.placed_for-f.ensures, ← c.f-item.is)
    (map_over_more (placed_of (books_of g.B.Block.contents g.B.Block.layers c.args.snap.now)) c.args.flights.now c.loop-f.flights i x c.loop-f-test.true c.loop-f.invariant c.f-item.is)

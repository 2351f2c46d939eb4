-- One request more is routed again.
use Rattle.std.proofs.Common.{true, map}
use Rattle.std.proofs.lemmas.List.Edits.{map_over_more}
use Rattle.volume_laws.specs.Again.{again_of}
use Rattle.volume_laws.specs.Published.{is_clear}
use Rattle.snapshot.specs.Kept.{books_of}
use Rattle.snapshot_list.specs.Rooms.{merge_books}
use Rattle.snapshot_list.proofs.routing_in_merge.route_all_again.Goals as goal

pub loop-f-preserved : goal.loop-f-preserved
loop-f-preserved g c =
    let x = c.f-item.result in
    let i = c.loop-f.f-index in
    rw (c.again_for-f.ensures, ← c.f-item.is)
    (map_over_more (again_of (merge_books g.B.Block.contents g.B.Block.layers true c.args.merge.now) (is_clear (map (books_of g.B.Block.contents g.B.Block.layers) c.args.snaps.now))) c.args.flights.now c.loop-f.flights i x c.loop-f-test.true c.loop-f.invariant c.f-item.is)

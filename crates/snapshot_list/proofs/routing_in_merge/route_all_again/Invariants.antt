-- The requests so far are routed again.
use Rattle.std.proofs.Common.{◌≡◌, ◌++◌, true, map, take, drop}
use Rattle.volume_laws.specs.Again.{again_of}
use Rattle.volume_laws.specs.Published.{is_clear}
use Rattle.snapshot.specs.Kept.{books_of}
use Rattle.snapshot_list.specs.Rooms.{merge_books}
use Rattle.snapshot_list.proofs.routing_in_merge.route_all_again.Given as goal

abbrev pub invariant-loop-f : goal.invariant-loop-f
invariant-loop-f g l =
    l.flights ≡ map (again_of (merge_books g.B.Block.contents g.B.Block.layers true l.merge) (is_clear (map (books_of g.B.Block.contents g.B.Block.layers) l.snaps))) (take l.f-index l.fn.flights) ++ drop l.f-index l.fn.flights

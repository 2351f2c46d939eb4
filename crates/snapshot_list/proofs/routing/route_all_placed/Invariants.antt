-- The requests so far are routed again.
use Rattle.std.proofs.Common.{◌≡◌, ◌++◌, map, take, drop}
use Rattle.volume_laws.specs.Again.{placed_of}
use Rattle.snapshot.specs.Kept.{books_of}
use Rattle.snapshot_list.proofs.routing.route_all_placed.Given as goal

abbrev pub invariant-loop-f : goal.invariant-loop-f
invariant-loop-f g l = l.flights ≡ map (placed_of (books_of g.B.Block.contents g.B.Block.layers l.snap)) (take l.f-index l.fn.flights) ++ drop l.f-index l.fn.flights

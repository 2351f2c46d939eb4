-- The snapshots behind the present one have published the chunk.
use Rattle.std.proofs.Common.{◌≡◌, true, map, drop}
use Rattle.std.specs.List.{list_all}
use Rattle.volume_laws.specs.Published.{is_saved}
use Rattle.snapshot.specs.Kept.{books_of}
use Rattle.snapshot_list.proofs.routing.are_saved.Given as goal

abbrev pub invariant-loop-k : goal.invariant-loop-k
invariant-loop-k g l = list_all (is_saved l.first) (map (books_of g.B.Block.contents g.B.Block.layers) (drop l.k l.snaps)) ≡ true

-- The snapshots so far have published each chunk that is touched.
use Rattle.std.proofs.Common.{◌≡◌, map, drop}
use Rattle.std.specs.List.{list_all}
use Rattle.volume_laws.specs.Published.{is_saved_over}
use Rattle.snapshot.specs.Kept.{books_of}
use Rattle.snapshot_list.proofs.routing.are_saved_over.Given as goal

abbrev pub invariant-loop-s : goal.invariant-loop-s
invariant-loop-s g l = list_all (is_saved_over l.first l.count) (map (books_of g.B.Block.contents g.B.Block.layers) l.snaps) ≡ list_all (is_saved_over l.first l.count) (map (books_of g.B.Block.contents g.B.Block.layers) (drop l.s-index l.snaps))

-- The snapshots so far are tried.
use Rattle.std.proofs.Common.{◌≡◌, map, drop}
use Rattle.std.specs.List.{list_any}
use Rattle.volume_laws.specs.Books.{SnapBooks}
use Rattle.snapshot.specs.Kept.{books_of}
use Rattle.snapshot_list.proofs.routing.is_any_untried.Given as goal

abbrev pub invariant-loop-s : goal.invariant-loop-s
invariant-loop-s g l = list_any (λ (s : SnapBooks). s.untried) (map (books_of g.B.Block.contents g.B.Block.layers) l.snaps) ≡ list_any (λ (s : SnapBooks). s.untried) (map (books_of g.B.Block.contents g.B.Block.layers) (drop l.s-index l.snaps))

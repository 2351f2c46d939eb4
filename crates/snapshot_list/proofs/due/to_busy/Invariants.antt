-- The snapshots from the present one on only wait.
use Rattle.std.proofs.Common.{map, take}
use Rattle.snapshot.specs.Kept.{due_of_kept}
use Rattle.snapshot_list.specs.Busy.{AreAlike}
use Rattle.snapshot_list.proofs.due.to_busy.Given as goal

abbrev pub invariant-loop-k : goal.invariant-loop-k
invariant-loop-k g l = AreAlike (map (due_of_kept g.B.Block.contents g.B.Block.layers) (take l.k l.snaps)) (map (due_of_kept g.B.Block.contents g.B.Block.layers) l.snaps)

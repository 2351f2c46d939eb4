-- The snapshots so far only wait.
use Rattle.std.proofs.Common.{◌≡◌, map, drop}
use Rattle.in_flight.specs.Due.{least}
use Rattle.in_flight.specs.declared.copies.Stage.TheVariants.{Waiting}
use Rattle.volume_laws.specs.Due.{copy_of, least_of}
use Rattle.snapshot.specs.Kept.{due_of_kept}
use Rattle.snapshot_list.specs.Busy.{AreAlike}
use Rattle.snapshot_list.proofs.due.from_busy.Given as goal

abbrev pub invariant-loop-k : goal.invariant-loop-k
invariant-loop-k g l =
    AreAlike (map (due_of_kept g.B.Block.contents g.B.Block.layers) (drop l.k l.snaps)) (map (due_of_kept g.B.Block.contents g.B.Block.layers) l.snaps)
    × (least_of (copy_of Waiting) (map (due_of_kept g.B.Block.contents g.B.Block.layers) l.snaps) ≡ least l.waiting (least_of (copy_of Waiting) (map (due_of_kept g.B.Block.contents g.B.Block.layers) (drop l.k l.snaps))))
